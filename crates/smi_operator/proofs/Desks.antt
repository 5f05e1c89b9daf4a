-- A desk stays that of its seats, whatever it gives and answers.
use Rattle.std.proofs.Common.{◌≡◌, ◌⊎◌, inl, inr, ℕ, ◌<◌, ◌≤◌, List, length, get_or, refl, sym, ◌∙◌, arith}
use Rattle.std.specs.Prelude.{Option, Some, None, IfSome, slice_get}
use Rattle.std.proofs.lemmas.Bool.{cases_eq}
use Rattle.std.proofs.lemmas.Option.{slice_get_cases}
use Rattle.rtrb.specs.declared.end.End.{End}
use Rattle.rtrb.specs.Ends.{SameRing}
use Rattle.smi_operator.specs.declared.ends.Seat.{Seat}
use Rattle.smi_operator.specs.declared.ends.SeatEnd.{SeatEnd}
use Rattle.smi_operator.specs.declared.ends.Desk.{Desk}
use Rattle.smi_operator.specs.declared.ends.Finished.{Finished}
use Rattle.smi_operator.specs.Sides.{IsSeatOf, IsSeatAt, IsFinishedAt, IsEndedAt, SameEnd, SameEnds, SameDesk}
use Rattle.smi_operator.specs.Sides.{Steps, Ends, seat_end, seat_count}

same_refl : (p : Option SeatEnd) → SameEnds p p
same_refl (Some p) = (((refl, refl, refl, refl), refl), ((refl, refl, refl, refl), refl))
same_refl None = tt

same_trans : (p q r : Option SeatEnd) → SameEnds p q → SameEnds q r → SameEnds p r
same_trans (Some p) (Some q) (Some r) a b = (
  ((b.0.0.0 ∙ a.0.0.0, b.0.0.1 ∙ a.0.0.1, b.0.0.2 ∙ a.0.0.2, b.0.0.3 ∙ a.0.0.3), b.0.1 ∙ a.0.1),
  ((b.1.0.0 ∙ a.1.0.0, b.1.0.1 ∙ a.1.0.1, b.1.0.2 ∙ a.1.0.2, b.1.0.3 ∙ a.1.0.3), b.1.1 ∙ a.1.1),
)
same_trans None None None a b = tt
same_trans None None (Some r) a b = absurd b
same_trans None (Some q) r a b = absurd a
same_trans (Some p) None r a b = absurd a
same_trans (Some p) (Some q) None a b = absurd b

pub desk_refl : (d : Desk) → SameDesk d d
desk_refl d = record { count = refl; seat_ends = λ i. same_refl (seat_end d i) }

pub desk_trans : (a b c : Desk) → SameDesk a b → SameDesk b c → SameDesk a c
desk_trans a b c x y = record {
  count = y.count ∙ x.count;
  seat_ends = λ i. same_trans (seat_end a i) (seat_end b i) (seat_end c i) (x.seat_ends i) (y.seat_ends i);
}

-- there is one
abbrev IsThere : Option SeatEnd → Type 0
IsThere (Some p) = Unit {0}
IsThere None = ⊥

there : (seat_ends : List SeatEnd) (i : ℕ) → i < length seat_ends → IsThere (slice_get seat_ends i)
there seat_ends i within = by_case (slice_get_cases seat_ends i).1
  where
    by_case : ((x : SeatEnd) × (i < length seat_ends) × (slice_get seat_ends i ≡ Some x) × (get_or seat_ends i x ≡ x))
        ⊎ ((length seat_ends ≤ i) × (slice_get seat_ends i ≡ None))
        → IsThere (slice_get seat_ends i)
    by_case (inl found) = rw found.2 tt
    by_case (inr past) = absurd (omega (arith, within, past.0))

stepped : (R : SeatEnd → SeatEnd → Type 0) (p q : Option SeatEnd) → IsThere p → IsThere q
    → IfSome p (λ a. IfSome q (λ b. SameEnd a b × R a b)) → SameEnds p q
stepped R (Some p) (Some q) is_p is_q step = step.0
stepped R None q is_p is_q step = absurd is_p
stepped R (Some p) None is_p is_q step = absurd is_q

-- one call leaves the desk the same
pub steps_same : (old new : Desk) (seat : ℕ) (R : SeatEnd → SeatEnd → Type 0) → seat < seat_count old
    → Steps old new seat R → SameDesk old new
steps_same old new seat R within steps = record { count = steps.count; seat_ends = λ i. at i (cases_eq i seat) }
  where
    at : (i : ℕ) → (i ≡ seat) ⊎ (i ≡ seat → ⊥) → SameEnds (seat_end old i) (seat_end new i)
    at i (inl is) =
        rw is (stepped R (seat_end old seat) (seat_end new seat) (there old.seat_ends.items seat within)
        (there new.seat_ends.items seat (omega (arith, within, steps.count))) steps.this)
    at i (inr other) = rw (steps.others i other) (same_refl (seat_end old i))

-- A seat that has ended is still that of the same desk.

ring_sym : {T A P : Type 0} (a b : End T A P) → SameRing a b → SameRing b a
ring_sym a b x = (sym x.0, sym x.1, sym x.2, sym x.3)

ring_trans : {T A P : Type 0} (a b c : End T A P) → SameRing a b → SameRing b c → SameRing a c
ring_trans a b c x y = (y.0 ∙ x.0, y.1 ∙ x.1, y.2 ∙ x.2, y.3 ∙ x.3)

ended_at : (s : Seat) (f : Finished) (p q : SeatEnd) → IsSeatOf s p → Ends s f → SameEnd p q → IsFinishedAt f q
ended_at s f p q of ends same =
    let t = ends.0 in
    let to_post = ring_trans s.orders.end p.orders.end q.orders.end of.0 same.0.0 in
    let to_seat = ring_trans q.answers.end p.answers.end s.answers.end
    (ring_sym p.answers.end q.answers.end same.1.0) of.1 in (
      rw ends.2.0 (ring_trans t.orders.end s.orders.end q.orders.end (ring_sym s.orders.end t.orders.end ends.1.0.0)
          to_post),
      rw ends.2.1 (ring_trans q.answers.end s.answers.end t.answers.end to_seat ends.1.1.0),
    )

ended_ends : (s : Seat) (f : Finished) (p q : Option SeatEnd) → IfSome p (IsSeatOf s) → Ends s f → SameEnds p q
    → IfSome q (IsFinishedAt f)
ended_ends s f (Some p) (Some q) of ends same = ended_at s f p q of ends same
ended_ends s f None None of ends same = tt
ended_ends s f None (Some q) of ends same = absurd same
ended_ends s f (Some p) None of ends same = absurd same

pub ended_at_desk : (s : Seat) (f : Finished) (old new : Desk) (i : ℕ) → IsSeatAt s old i → Ends s f
    → SameDesk old new → IsEndedAt f new i
ended_at_desk s f old new i of ends same = ended_ends s f (seat_end old i) (seat_end new i) of ends (same.seat_ends i)
