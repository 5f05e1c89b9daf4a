-- One queue changes, and all others stay.
use Rattle.std.proofs.Common.{◌≡◌, ◌≢◌, ℕ, zero, suc, ◌<◌, Bool, List, [], ◌∷◌, length, get_or, slice_get, slice_set}
use Rattle.std.proofs.Common.{refl, ap, ◌∙◌, arith, true, false, Option, Some, None}
use Rattle.std.proofs.Math.Seq.{map-set_same}
use Rattle.std.proofs.lemmas.List.{get_or-set_same, length-set}
use Rattle.std.proofs.lemmas.Option.{slice_get-get_or}
use Rattle.smi_session.specs.SeatTable.{AreQueuesOf, Attempts, ChangesAt, GivesAt, SeatTableState, lane_of}
use Rattle.smi_session.specs.declared.session.Deferred.{Deferred}
use Rattle.smi_session.specs.SeatQueue.{Keeps, SeatQueueState, Submits}

-- the element at a place that was written, and at any other
get_written : {X : Type 0} (xs : List X) (i : ℕ) (y : X) → i < length xs → slice_get (slice_set xs i y) i ≡ Some y
get_written xs i y within =
    slice_get-get_or (slice_set xs i y) i y (omega (arith, length-set xs i y, within))
    ∙ ap Some (get_or-set_same xs i y y within)

get_another : {X : Type 0} (xs : List X) (i j : ℕ) (y : X) → j ≢ i → slice_get (slice_set xs i y) j ≡ slice_get xs j
get_another [] i j y other = refl
get_another (x ∷ xs) zero zero y other = absurd (other refl)
get_another (x ∷ xs) zero (suc j) y other = refl
get_another (x ∷ xs) (suc i) zero y other = refl
get_another (x ∷ xs) (suc i) (suc j) y other = get_another xs i j y (λ e. other (ap suc e))

-- the operators at the queues stay there
pub stay : (os : List ℕ) (qs : List SeatQueueState) (i : ℕ) (q d : SeatQueueState)
    → q.operator ≡ (get_or qs i d).operator → AreQueuesOf os qs → AreQueuesOf os (slice_set qs i q)
stay os qs i q d same are = map-set_same (λ q. q.operator) qs i q d same ∙ are

-- the queue of a place changes so, and the others do not
pub changes : (R : SeatQueueState → SeatQueueState → Type 0) (a : SeatTableState) (i : ℕ) (q d : SeatQueueState)
    (given : Bool) → i < length a.queues → R (get_or a.queues i d) q
    → ChangesAt i R a (record a { queues = slice_set a.queues i q; has_given = given })
changes R a i q d given within r = record {
  this = rw (slice_get-get_or a.queues i d within, get_written a.queues i q within) r;
  others = λ j other. get_another a.queues i j q other;
  count = length-set a.queues i q;
  operators = refl;
  held = refl;
}

-- an order is submitted at the queue of a place
pub gave_at : (x : Deferred) (a : SeatTableState) (i : ℕ) (q d : SeatQueueState) → lane_of a x ≡ Some i
    → i < length a.queues → d ≡ get_or a.queues i d → Submits x.pending d q
    → Attempts x a (record a { queues = slice_set a.queues i q; has_given = true }) true
gave_at x a i q d at within read gave =
    rw at (changes (Submits x.pending) a i q d true within (rw (← read) gave), refl)

-- or its seat has no room
pub full_at : (x : Deferred) (a : SeatTableState) (i : ℕ) (q d : SeatQueueState) → lane_of a x ≡ Some i
    → i < length a.queues → d ≡ get_or a.queues i d → Keeps d q
    → Attempts x a (record a { queues = slice_set a.queues i q }) false
full_at x a i q d at within read same =
    rw at (changes Keeps a i q d a.has_given within (rw (← read) same), refl)

-- an answer is taken, or there is none
pub took_at : (R : SeatQueueState → SeatQueueState → Type 0) (a : SeatTableState) (i : ℕ) (q d : SeatQueueState)
    → i < length a.queues → d ≡ get_or a.queues i d → R d q
    → ChangesAt i R a (record a { queues = slice_set a.queues i q })
took_at R a i q d within read took = changes R a i q d a.has_given within (rw (← read) took)

-- an order that is submitted takes none out that wait
pub keeps_held : (x : Deferred) (a b : SeatTableState) (given : Bool) → Attempts x a b given → b.held ≡ a.held
keeps_held x a b given gives = by (lane_of a x) given gives
  where
    by : (place : Option ℕ) (given : Bool) → GivesAt place x.pending a b given → b.held ≡ a.held
    by None given gives = ap (λ (t : SeatTableState). t.held) gives.0
    by (Some place) true gives = gives.0.held
    by (Some place) false gives = gives.0.held
