-- Whose seat an operator's orders go to.
use Rattle.std.proofs.Common.{◌≡◌, ◌⊎◌, inl, inr, ◌<◌, ◌+◌, ℕ, zero, suc, Bool, true, false, List, [], ◌∷◌, ◌++◌}
use Rattle.std.proofs.Common.{take, Option, Some, None, slice_get, get_or, refl, sym, ap, ◌∙◌, arith, true≢false}
use Rattle.std.proofs.Common.{length, map, take_all, append-nil}
use Rattle.std.specs.Prelude.{◌==◌, ◌||◌, ◌&&◌, is_some, if◌then◌else◌}
use Rattle.std.specs.List.{list_any, position}
use Rattle.std.proofs.lemmas.Bool.{eqb-true}
use Rattle.std.proofs.lemmas.Bool.Decides.{nat_tests}
use Rattle.std.proofs.lemmas.List.{map-append}
use Rattle.std.proofs.lemmas.List.Quantifiers.{position-Some}
use Rattle.std.proofs.lemmas.Option.{slice_get_within, slice_get-get_or}
use Rattle.smi_protocol.specs.declared.order.Order.{Order}
use Rattle.smi_node.specs.Served.{operator_of_seat}
use Rattle.smi_operator.specs.declared.ends.Seat.{Seat}
use Rattle.smi_operator.specs.Working.{commanded}
use Rattle.smi_session.specs.Lane.{are_of_one_domain, is_about, is_further, is_same_operator, is_shared, joins}
use Rattle.smi_session.specs.Lane.{lane_for, may_take}
use Rattle.smi_session.specs.Lane.{or_place, takes, takes_of, unless_known}
use Rattle.smi_session.specs.SeatTable.{AreQueuesOf, IsOpened, SeatTableState, lane_of, queues_over}
use Rattle.smi_session.specs.SeatQueue.{SeatQueueState, new_queue}
use Rattle.smi_session.specs.declared.lane.Lane.TheVariants.{Any}
use Rattle.smi_session.specs.declared.session.Deferred.{Deferred}

-- the first of two that both hold
first_of : (a b : Bool) → (a && b) ≡ true → a ≡ true
first_of true b both = refl
first_of false b both = absurd (true≢false (sym both))

same_is : (a b : Option ℕ) → is_same_operator a b ≡ true → a ≡ b
same_is (Some a) (Some b) is = ap Some (eqb-true a b is)
same_is None None is = refl
same_is (Some a) None is = absurd (true≢false (sym is))
same_is None (Some b) is = absurd (true≢false (sym is))

-- a seat that takes an order is its operator's
joins_is : (operator : Option ℕ) (o : Order) (q : SeatQueueState) → joins operator o q ≡ true → q.operator ≡ operator
joins_is operator o q is =
    same_is q.operator operator
    (first_of (is_same_operator q.operator operator) (list_any (λ p. are_of_one_domain p.order o) q.pending)
    (first_of (is_about operator o q) (is_further (commanded o) q.pending) is))

may_is : (operator : Option ℕ) (o : Order) (q : SeatQueueState) → may_take operator o q ≡ true → q.operator ≡ operator
may_is operator o q is =
    same_is q.operator operator
    (first_of (is_same_operator q.operator operator) (takes q.lane o)
    (first_of (takes_of operator o q) (is_shared q.lane || length q.pending == 0) is))

-- Parts of equal lists and values.

abbrev head_of : {X : Type 0} → X → List X → X
head_of d [] = d
head_of d (x ∷ xs) = x

abbrev rest_of : {X : Type 0} → List X → List X
rest_of [] = []
rest_of (x ∷ xs) = xs

abbrev value_of : {X : Type 0} → X → Option X → X
value_of d None = d
value_of d (Some x) = x

no_value : {X : Type 0} (x : X) → None ≡ Some x → ⊥
no_value {X} x e = true≢false (sym (ap (λ (o : Option X). is_some o) e))

-- the queue at a place that was looked for
found_at : (p : SeatQueueState → Bool) (qs : List SeatQueueState) (i : ℕ) → position p qs ≡ Some i
    → (q : SeatQueueState) × (slice_get qs i ≡ Some q) × (p q ≡ true)
found_at p [] i is = absurd (no_value i is)
found_at p (d ∷ qs) i is =
    let found = position-Some p (d ∷ qs) i d is in
    (get_or (d ∷ qs) i d, slice_get-get_or (d ∷ qs) i d found.0, found.1)

pub within_of : (p : SeatQueueState → Bool) (qs : List SeatQueueState) (i : ℕ) → position p qs ≡ Some i
    → i < length qs
within_of p [] i is = absurd (no_value i is)
within_of p (d ∷ qs) i is = (position-Some p (d ∷ qs) i d is).0

-- what is there is the operator's
at_place : (ops : List ℕ) (qs : List SeatQueueState) (i : ℕ) (q : SeatQueueState) (op : ℕ)
    → map (λ q. q.operator) qs ≡ map Some ops ++ None ∷ [] → slice_get qs i ≡ Some q → q.operator ≡ Some op
    → slice_get ops i ≡ Some op
at_place ops [] i q op are get is = absurd (no_value q get)
at_place [] (x ∷ qs) zero q op are get is =
    absurd (no_value op (sym (ap (head_of None) are) ∙ ap (λ (w : SeatQueueState). w.operator) (ap (value_of x) get)
    ∙ is))
at_place [] (x ∷ []) (suc i) q op are get is = absurd (no_value q get)
at_place [] (x ∷ y ∷ more) (suc i) q op are get is = absurd (let two = ap length are in omega (arith, two))
at_place (o ∷ ops) (x ∷ qs) zero q op are get is =
    sym (ap (head_of None) are) ∙ ap (λ (w : SeatQueueState). w.operator) (ap (value_of x) get) ∙ is
at_place (o ∷ ops) (x ∷ qs) (suc i) q op are get is = at_place ops qs i q op (ap rest_of are) get is

at_last : (ops : List ℕ) (qs : List SeatQueueState) (i : ℕ) (q : SeatQueueState)
    → map (λ q. q.operator) qs ≡ map Some ops ++ None ∷ [] → slice_get qs i ≡ Some q → q.operator ≡ None
    → i ≡ length ops
at_last ops [] i q are get is = absurd (no_value q get)
at_last [] (x ∷ qs) zero q are get is = refl
at_last [] (x ∷ []) (suc i) q are get is = absurd (no_value q get)
at_last [] (x ∷ y ∷ more) (suc i) q are get is = absurd (let two = ap length are in omega (arith, two))
at_last (o ∷ ops) (x ∷ qs) zero q are get is =
    absurd (no_value o (sym is ∙ sym (ap (λ (w : SeatQueueState). w.operator) (ap (value_of x) get))
    ∙ ap (head_of None) are))
at_last (o ∷ ops) (x ∷ qs) (suc i) q are get is = ap suc (at_last ops qs i q (ap rest_of are) get is)

-- where the seat of an order was found
abbrev Found : List SeatQueueState → ℕ → Option ℕ → Order → ℕ → Type 0
Found qs last operator o place =
    (position (joins operator o) qs ≡ Some place) ⊎ (position (may_take operator o) qs ≡ Some place)
    ⊎ ((list_any (takes_of operator o) qs ≡ false) × (last ≡ place))

found : (qs : List SeatQueueState) (last : ℕ) (operator : Option ℕ) (o : Order) (place : ℕ)
    → lane_for qs last operator o ≡ Some place → Found qs last operator o place
found qs last operator o place is =
    by (list_any (is_about operator o) qs) (position (joins operator o) qs) (position (may_take operator o) qs)
    (list_any (takes_of operator o) qs) refl refl refl refl is
  where
    by : (about : Bool) (a b : Option ℕ) (k : Bool) → about ≡ list_any (is_about operator o) qs
        → a ≡ position (joins operator o) qs → b ≡ position (may_take operator o) qs
        → k ≡ list_any (takes_of operator o) qs
        → (if about then a else or_place b (unless_known k last)) ≡ Some place → Found qs last operator o place
    by true a b k d e f g is = inl (sym e ∙ is)
    by false a (Some p) k d e f g is = inr (inl (sym f ∙ is))
    by false a None true d e f g is = absurd (no_value place is)
    by false a None false d e f g is = inr (inr (sym g, ap (value_of last) is))

served : (ops : List ℕ) (i op : ℕ) → slice_get ops i ≡ Some op → operator_of_seat ops (length ops + 1) i ≡ Some op
served ops i op at =
    let within : i < length ops = slice_get_within ops i op at in
    let inner : (i + 1 == length ops + 1) ≡ false = grind (arith, nat_tests, within) in
    rw inner at

pub speaks : (t : SeatTableState) (x : Deferred) (op place : ℕ) → AreQueuesOf t.operators t.queues
    → x.operator ≡ Some op → lane_of t x ≡ Some place
    → list_any (takes_of x.operator x.pending.order) t.queues ≡ true
    → operator_of_seat t.operators (length t.operators + 1) place ≡ Some op
speaks t x op place are who is known =
    by (found t.queues (length t.operators) x.operator x.pending.order place is)
  where
    at : (q : SeatQueueState) → slice_get t.queues place ≡ Some q → q.operator ≡ x.operator
        → operator_of_seat t.operators (length t.operators + 1) place ≡ Some op
    at q get its = served t.operators place op (at_place t.operators t.queues place q op are get (its ∙ who))

    by : Found t.queues (length t.operators) x.operator x.pending.order place
        → operator_of_seat t.operators (length t.operators + 1) place ≡ Some op
    by (inl joined) =
        let f = found_at (joins x.operator x.pending.order) t.queues place joined in
        at f.0 f.1 (joins_is x.operator x.pending.order f.0 f.2)
    by (inr (inl may)) =
        let f = found_at (may_take x.operator x.pending.order) t.queues place may in
        at f.0 f.1 (may_is x.operator x.pending.order f.0 f.2)
    by (inr (inr none)) = absurd (true≢false (sym known ∙ none.0))

pub nobody : (t : SeatTableState) (x : Deferred) (place : ℕ) → AreQueuesOf t.operators t.queues
    → x.operator ≡ None → lane_of t x ≡ Some place
    → operator_of_seat t.operators (length t.operators + 1) place ≡ None
nobody t x place are who is = last (by (found t.queues (length t.operators) x.operator x.pending.order place is))
  where
    last : place ≡ length t.operators → operator_of_seat t.operators (length t.operators + 1) place ≡ None
    last e =
        let same : (place + 1 == length t.operators + 1) ≡ true = grind (arith, nat_tests, e) in
        rw same refl

    by : Found t.queues (length t.operators) x.operator x.pending.order place → place ≡ length t.operators
    by (inl joined) =
        let f = found_at (joins x.operator x.pending.order) t.queues place joined in
        at_last t.operators t.queues place f.0 are f.1 (joins_is x.operator x.pending.order f.0 f.2 ∙ who)
    by (inr (inl may)) =
        let f = found_at (may_take x.operator x.pending.order) t.queues place may in
        at_last t.operators t.queues place f.0 are f.1 (may_is x.operator x.pending.order f.0 f.2 ∙ who)
    by (inr (inr none)) = sym none.1

seats_over : (n : ℕ) (ops : List ℕ) (seats : List Seat) → length ops ≡ length seats
    → map (λ q. q.seat) (queues_over n ops seats) ≡ seats
seats_over n [] [] e = refl
seats_over n [] (seat ∷ seats) e = absurd (omega (arith, e))
seats_over n (op ∷ ops) [] e = absurd (omega (arith, e))
seats_over n (op ∷ ops) (seat ∷ seats) e = ap (λ l. seat ∷ l) (seats_over (n + 1) ops seats (omega (arith, e)))

pub over : (ops : List ℕ) (seats : List Seat) (reports : Seat) (t : SeatTableState) → IsOpened ops seats reports t
    → length ops ≡ length seats → map (λ q. q.seat) t.queues ≡ seats ++ reports ∷ []
over ops seats reports t opened e =
    ap (map (λ q. q.seat)) opened.queues
    ∙ map-append (λ q. q.seat) (queues_over 0 ops seats) (new_queue None Any reports ∷ [])
    ∙ ap (λ l. l ++ reports ∷ []) (seats_over 0 ops seats e)

pub all_own : (ops : List ℕ) (seats : List Seat) (reports : Seat) (t : SeatTableState) → IsOpened ops seats reports t
    → length ops ≡ length seats → t.operators ≡ ops
all_own ops seats reports t opened e = opened.operators ∙ take_all {A = ℕ} (length seats) ops (omega (arith, e))

-- without seats there is no queue
pub no_seats : (n : ℕ) (ops : List ℕ) → queues_over n ops [] ≡ []
no_seats n [] = refl
no_seats n (op ∷ ops) = refl

-- no seat or no operator is left
pub all_opened : (n : ℕ) (ops own left_ops : List ℕ) (seats left : List Seat) (reports : Seat)
    (queues all : List SeatQueueState)
    → own ++ take (length left) left_ops ≡ take (length seats) ops
    → queues ++ queues_over n left_ops left ≡ queues_over 0 ops seats → all ≡ queues ++ new_queue None Any reports ∷ []
    → (left_ops ≡ []) ⊎ (left ≡ [])
    → IsOpened ops seats reports (record { operators = own; queues = all; held = []; has_given = false })
all_opened n ops own left_ops seats left reports queues all owns overs last (inl e) =
    let none : take (length left) left_ops ≡ [] = rw e (take_all {A = ℕ} (length left) [] (omega arith)) in
    let no_more : queues_over n left_ops left ≡ [] = rw e refl in
    record {
      operators = sym (append-nil own) ∙ (rw none at owns);
      queues = last ∙ ap (λ l. l ++ new_queue None Any reports ∷ []) (sym (append-nil queues) ∙ (rw no_more at overs));
      held = refl;
      has_given = refl;
    }
all_opened n ops own left_ops seats left reports queues all owns overs last (inr e) =
    let none : take (length left) left_ops ≡ [] = rw e refl in
    let no_more : queues_over n left_ops left ≡ [] = rw e (no_seats n left_ops) in
    record {
      operators = sym (append-nil own) ∙ (rw none at owns);
      queues = last ∙ ap (λ l. l ++ new_queue None Any reports ∷ []) (sym (append-nil queues) ∙ (rw no_more at overs));
      held = refl;
      has_given = refl;
    }

pub no_length : {X : Type 0} (xs : List X) → length xs ≡ 0 → xs ≡ []
no_length [] e = refl
no_length (x ∷ xs) e = absurd (omega (arith, e))
