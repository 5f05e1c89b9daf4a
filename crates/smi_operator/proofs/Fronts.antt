-- Answers are handed out one by one.
use Rattle.std.proofs.Common.{◌≡◌, ◌<◌, ◌≤◌, List, [], ◌∷◌, ◌++◌, length, map, refl, ap, arith}
use Rattle.std.specs.Prelude.{Option, Some, None, option_map, remove}
use Rattle.smi_protocol.specs.declared.order.Told.{Told}
use Rattle.smi_operator.specs.declared.work.Ending.{Ending}
use Rattle.smi_operator.specs.declared.work.WorkSlot.{WorkSlot}
use Rattle.smi_operator.specs.Working.{first_told, handed_out, handed_with, still_in_work, staying, order_told}
use Rattle.smi_operator.specs.Working.{order_in, told_of}

-- the oldest has not ended: nothing is handed out
stops_at : (e : WorkSlot) (x : Option Ending) (more : List WorkSlot) → option_map (told_of e.work.order) x ≡ None
    → (handed_with e.work.order x (handed_out more) ≡ []) × (staying x (e ∷ more) (still_in_work more) ≡ e ∷ more)
stops_at e None more none = (refl, refl)
stops_at e (Some x) more none = grind (arith, none)

pub stops : (work : List WorkSlot) → first_told work ≡ None → (handed_out work ≡ []) × (still_in_work work ≡ work)
stops [] none = (refl, refl)
stops (e ∷ more) none = stops_at e e.ending more none

-- the oldest has ended: its answer is handed out first
goes_on_at : (e : WorkSlot) (x : Option Ending) (more : List WorkSlot) (t : Told)
    → option_map (told_of e.work.order) x ≡ Some t
    → (handed_with e.work.order x (handed_out more) ≡ t ∷ handed_out more)
    × (staying x (e ∷ more) (still_in_work more) ≡ still_in_work more)
goes_on_at e None more t some = grind (arith, some)
goes_on_at e (Some x) more t some = (grind (arith, some), refl)

pub goes_on : (work : List WorkSlot) (t : Told) → first_told work ≡ Some t
    → (handed_out work ≡ t ∷ handed_out (remove work 0)) × (still_in_work work ≡ still_in_work (remove work 0))
    × (0 < length work)
goes_on [] t some = grind (arith, some)
goes_on (e ∷ more) t some =
    let on = goes_on_at e e.ending more t some in
    (on.0, on.1, omega arith)

-- what is handed out and what stays are all that was in work
orders_at : (e : WorkSlot) (x : Option Ending) (more : List WorkSlot)
    → map order_told (handed_out more) ++ map order_in (still_in_work more) ≡ map order_in more
    → map order_told (handed_with e.work.order x (handed_out more))
    ++ map order_in (staying x (e ∷ more) (still_in_work more)) ≡ order_in e ∷ map order_in more
orders_at e None more rest = refl
orders_at e (Some x) more rest = ap (λ orders. e.work.order ∷ orders) rest

pub orders_stay : (work : List WorkSlot) → map order_told (handed_out work) ++ map order_in (still_in_work work)
    ≡ map order_in work
orders_stay [] = refl
orders_stay (e ∷ more) = orders_at e e.ending more (orders_stay more)

-- no more stay than were in work
fewer_at : (e : WorkSlot) (x : Option Ending) (more : List WorkSlot) → length (still_in_work more) ≤ length more
    → length (staying x (e ∷ more) (still_in_work more)) ≤ length (e ∷ more)
fewer_at e None more rest = omega arith
fewer_at e (Some x) more rest = omega (arith, rest)

pub fewer_stay : (work : List WorkSlot) → length (still_in_work work) ≤ length work
fewer_stay [] = omega arith
fewer_stay (e ∷ more) = fewer_at e e.ending more (fewer_stay more)
