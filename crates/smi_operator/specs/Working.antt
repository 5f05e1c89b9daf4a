-- Orders in work: which may be in work together, and when their answers are handed out.
use Rattle.std.specs.Prelude.{ℕ, ◌≡◌, ◌<◌, ◌==◌, ◌-◌, ◌&&◌, ◌||◌, nat_lt, Bool, false, if◌then◌else◌, List, [], ◌∷◌}
use Rattle.std.specs.Prelude.{length, set, slice_get, Option, Some, None, IfSome, option_map}
use Rattle.std.specs.Option.{option_map_or}
use Rattle.std.specs.List.{list_all}
use Rattle.smi_grant.specs.Record.{Standing}
use Rattle.smi_protocol.specs.declared.order.Mark.{Mark}
use Rattle.smi_protocol.specs.declared.order.Told.{Told}
use Rattle.smi_protocol.specs.declared.order.Order.{Order}
use Rattle.smi_protocol.specs.declared.order.Order.TheVariants as order
use Rattle.smi_operator.specs.declared.work.Ending.{Ending}
use Rattle.smi_operator.specs.declared.work.Work.{Work}
use Rattle.smi_operator.specs.declared.work.WorkSlot.{WorkSlot}

-- how many orders of a seat may be in work at a time
abbrev pub most_work : ℕ
most_work = 8

-- the domain that an order commands
abbrev pub commanded : Order → Option ℕ
commanded (order.Take d) = None
commanded (order.Drop d) = None
commanded (order.Do d a) = Some d
commanded (order.Include d t) = Some d
commanded (order.Exclude d t) = Some d
commanded (order.Manual d t) = Some d
commanded (order.Ignore d t) = Some d
commanded (order.Ask d) = None
commanded (order.Watch x) = None
commanded (order.Unwatch x) = None
commanded (order.Report device s) = None

-- the order is a command on the domain
abbrev pub is_on : ℕ → Order → Bool
is_on d o = option_map_or (λ other. other == d) (commanded o) false

-- commands on one domain, and fewer than eight so far
abbrev pub is_further : Option ℕ → List WorkSlot → Bool
is_further None work = false
is_further (Some d) work = nat_lt (length work) most_work && list_all (λ e. is_on d e.work.order) work

-- an order comes into work alone, or as a further command
abbrev pub may_join : List WorkSlot → Order → Bool
may_join work o = length work == 0 || is_further (commanded o) work

-- an order comes into work
abbrev pub begun : Order → WorkSlot
begun o = record { work = record { order = o; mark = None }; ending = None }

-- an order ends once
abbrev pub first_ending : Option Ending → Ending → Option Ending
first_ending None new = Some new
first_ending (Some old) new = Some old

abbrev pub ended_by : WorkSlot → Ending → WorkSlot
ended_by e x = record { work = e.work; ending = first_ending e.ending x }

-- the order became this command
abbrev pub marked_by : WorkSlot → Mark → WorkSlot
marked_by e m = record { work = record { order = e.work.order; mark = Some m }; ending = e.ending }

-- an ending, and what the operator is told of it
abbrev pub ending : ℕ → Option Standing → Ending
ending code asked = record { code = code; asked = asked }

abbrev pub told_of : Order → Ending → Told
told_of o x = record { order = o; code = x.code; asked = x.asked }

-- the entry at this place changes, if there is one
abbrev pub changed_at : (WorkSlot → WorkSlot) → ℕ → List WorkSlot → List WorkSlot
changed_at f i work = option_map_or (λ e. set work i (f e)) (slice_get work i) work

-- the order at this place ends
abbrev pub ended_at : List WorkSlot → ℕ → Ending → List WorkSlot
ended_at work i x = changed_at (λ e. ended_by e x) i work

-- the newest order became this command
abbrev pub newest_marked : List WorkSlot → Mark → List WorkSlot
newest_marked work m = changed_at (λ e. marked_by e m) (length work - 1) work

-- the place of the newest order in work
abbrev pub newest_of : List WorkSlot → Option ℕ
newest_of work = if length work == 0 then None else Some (length work - 1)

-- an answer is of an order in work: if a command was issued, of the order that became it, else of the same order
abbrev pub IsAnsweredBy : Order → Option Mark → Work → Type 0
IsAnsweredBy o (Some m) w = w.mark ≡ Some m
IsAnsweredBy o None w = w.order ≡ o

-- no order in work before this place is what the answer is of
abbrev pub IsOfNone : Order → Option Mark → List WorkSlot → ℕ → Type 0
IsOfNone o m work most = (i : ℕ) → i < most → IfSome (slice_get work i) (λ e. IsAnsweredBy o m e.work → ⊥)

-- the place of the oldest order in work that an answer is of, if there is one
abbrev pub IsPlaceOf : Order → Option Mark → List WorkSlot → Option ℕ → Type 0
IsPlaceOf o m work (Some i) = (i < length work) × IfSome (slice_get work i) (λ e. IsAnsweredBy o m e.work)
    × IsOfNone o m work i
IsPlaceOf o m work None = IsOfNone o m work (length work)

-- The answers of the oldest orders are handed out, up to one that has not ended.

abbrev pub handed_with : Order → Option Ending → List Told → List Told
handed_with o None more = []
handed_with o (Some x) more = told_of o x ∷ more

abbrev pub handed_out : List WorkSlot → List Told
handed_out [] = []
handed_out (e ∷ more) = handed_with e.work.order e.ending (handed_out more)

-- the others stay in work
abbrev pub staying : Option Ending → List WorkSlot → List WorkSlot → List WorkSlot
staying None all more = all
staying (Some x) all more = more

abbrev pub still_in_work : List WorkSlot → List WorkSlot
still_in_work [] = []
still_in_work (e ∷ more) = staying e.ending (e ∷ more) (still_in_work more)

-- the answer of the oldest order, if it has ended
abbrev pub first_told : List WorkSlot → Option Told
first_told [] = None
first_told (e ∷ more) = option_map (told_of e.work.order) e.ending

-- The orders of both.

-- the order of an answer, and that of an entry
abbrev pub order_told : Told → Order
order_told t = t.order

abbrev pub order_in : WorkSlot → Order
order_in e = e.work.order
