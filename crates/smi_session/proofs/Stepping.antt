-- The pending orders of a queue are those that were submitted and not told.
use Rattle.std.proofs.Common.{◌≡◌, ◌≤◌, ◌+◌, ◌-◌, ℕ, zero, suc, List, [], ◌∷◌, ◌++◌, length, drop, Some}
use Rattle.std.proofs.Common.{slice_get}
use Rattle.std.proofs.Common.{sym, ap, ◌∙◌, arith, length-append, length-drop}
use Rattle.smi_protocol.specs.declared.order.Told.{Told}
use Rattle.smi_operator.specs.Sides.{submitted, told_to}
use Rattle.smi_session.specs.SeatQueue.{IsInStep, SeatQueueState, TellsOldest, orders_of}
use Rattle.smi_session.specs.declared.seat_queue.PendingOrder.{PendingOrder}

none : {X : Type 0} (ys : List X) (y : X) → [] ≡ y ∷ ys → ⊥
none ys y e =
    let bad : 0 ≡ length (y ∷ ys) = ap length e in
    omega (arith, bad)

-- what begins the rest of a list
first_of_rest : {X : Type 0} (xs ys : List X) (n : ℕ) (y : X) → drop n xs ≡ y ∷ ys → slice_get xs n ≡ Some y
first_of_rest [] ys zero y e = absurd (none ys y e)
first_of_rest [] ys (suc n) y e = absurd (none ys y e)
first_of_rest (x ∷ xs) ys zero y e = cc
first_of_rest (x ∷ xs) ys (suc n) y e = first_of_rest xs ys n y e

-- the rest of a rest
rest_of_rest : {X : Type 0} (xs ys : List X) (n : ℕ) (y : X) → drop n xs ≡ y ∷ ys → drop (n + 1) xs ≡ ys
rest_of_rest [] ys zero y e = absurd (none ys y e)
rest_of_rest [] ys (suc n) y e = absurd (none ys y e)
rest_of_rest (x ∷ xs) ys zero y e = cc
rest_of_rest (x ∷ xs) ys (suc n) y e =
    let on : suc n + 1 ≡ suc (n + 1) = omega arith in
    rw on (rest_of_rest xs ys n y e)

more_than : {X : Type 0} (xs ys : List X) (n : ℕ) (y : X) → drop n xs ≡ y ∷ ys → n + 1 ≤ length xs
more_than xs ys n y e =
    let left : length xs - n ≡ length (y ∷ ys) = sym (length-drop n xs) ∙ ap length e in
    omega (arith, left)

pub tells : (a b : SeatQueueState) (p : PendingOrder) (told : Told) → IsInStep a → TellsOldest p told a b → IsInStep b
tells a b p told h t =
    let one : length (told_to b.seat) ≡ length (told_to a.seat) + 1
    = ap length t.3 ∙ length-append (told_to a.seat) (told ∷ []) in
    let rest : drop (length (told_to a.seat)) (submitted a.seat) ≡ p.order ∷ orders_of b.pending
    = h.orders ∙ ap orders_of t.2 in
    record {
      orders = rw (one, t.1)
          (rest_of_rest (submitted a.seat) (orders_of b.pending) (length (told_to a.seat)) p.order rest);
      told = rw (one, t.1)
          (more_than (submitted a.seat) (orders_of b.pending) (length (told_to a.seat)) p.order rest);
    }

pub answers : (a b : SeatQueueState) (p : PendingOrder) (told : Told) → IsInStep a → TellsOldest p told a b
    → slice_get (submitted a.seat) (length (told_to a.seat)) ≡ Some p.order
answers a b p told h t =
    first_of_rest (submitted a.seat) (orders_of b.pending) (length (told_to a.seat)) p.order
    (h.orders ∙ ap orders_of t.2)

-- the same, fact by fact
pub tells_next : (a b : SeatQueueState) (p : PendingOrder) (told : Told) → a.pending ≡ p ∷ b.pending
    → submitted b.seat ≡ submitted a.seat → told_to b.seat ≡ told_to a.seat ++ told ∷ [] → IsInStep a → IsInStep b
tells_next a b p told left sub more h =
    let one : length (told_to b.seat) ≡ length (told_to a.seat) + 1
    = ap length more ∙ length-append (told_to a.seat) (told ∷ []) in
    let rest : drop (length (told_to a.seat)) (submitted a.seat) ≡ p.order ∷ orders_of b.pending
    = h.orders ∙ ap orders_of left in
    record {
      orders = rw (one, sub)
          (rest_of_rest (submitted a.seat) (orders_of b.pending) (length (told_to a.seat)) p.order rest);
      told = rw (one, sub)
          (more_than (submitted a.seat) (orders_of b.pending) (length (told_to a.seat)) p.order rest);
    }
