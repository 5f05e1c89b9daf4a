-- Which orders of an operator wait side by side.
use Rattle.std.specs.Prelude.{ℕ, ◌==◌, ◌%◌, ◌&&◌, ◌||◌, Bool, true, false, if◌then◌else◌, List, length, Option, Some}
use Rattle.std.specs.Prelude.{None}
use Rattle.std.specs.Prelude.{is_some}
use Rattle.std.specs.Prelude.{nat_lt}
use Rattle.std.specs.List.{list_all, list_any, position}
use Rattle.smi_operator.specs.Working.{commanded, is_on, most_work}
use Rattle.smi_protocol.specs.declared.order.Order.{Order}
use Rattle.smi_protocol.specs.declared.order.Order.TheVariants as order
use Rattle.smi_session.specs.SeatQueue.{SeatQueueState}
use Rattle.smi_session.specs.declared.lane.Lane.{Lane}
use Rattle.smi_session.specs.declared.seat_queue.PendingOrder.{PendingOrder}
use Rattle.smi_session.specs.declared.lane.Lane.TheVariants.{Any, Orders, Watches, Questions}

-- the domain that an order is about
abbrev pub domain_of : Order → Option ℕ
domain_of (order.Take d) = Some d
domain_of (order.Drop d) = Some d
domain_of (order.Do d a) = Some d
domain_of (order.Include d t) = Some d
domain_of (order.Exclude d t) = Some d
domain_of (order.Manual d t) = Some d
domain_of (order.Ignore d t) = Some d
domain_of (order.Ask d) = None
domain_of (order.Watch x) = None
domain_of (order.Unwatch x) = None
domain_of (order.Report device s) = None

abbrev pub is_watch : Order → Bool
is_watch (order.Watch x) = true
is_watch (order.Unwatch x) = true
is_watch _ = false

abbrev pub is_question : Order → Bool
is_question (order.Ask d) = true
is_question _ = false

abbrev pub is_one_domain : Option ℕ → Option ℕ → Bool
is_one_domain (Some d) (Some e) = d == e
is_one_domain _ _ = false

abbrev pub are_of_one_domain : Order → Order → Bool
are_of_one_domain a b = is_one_domain (domain_of a) (domain_of b)

-- both are the same operator, or both nobody
abbrev pub is_same_operator : Option ℕ → Option ℕ → Bool
is_same_operator (Some a) (Some b) = a == b
is_same_operator None None = true
is_same_operator _ _ = false

-- which orders belong into a lane
abbrev pub takes : Lane → Order → Bool
takes Any o = true
takes Orders o = is_some (domain_of o)
takes Watches o = is_watch o
takes Questions o = is_question o

-- orders of any kind may be pending there, because none waits for long
abbrev pub is_shared : Lane → Bool
is_shared Any = true
is_shared Orders = false
is_shared Watches = true
is_shared Questions = false

-- the lane of a seat: of each seven four are for orders, one for watches, two for questions
abbrev pub lane_at : ℕ → Lane
lane_at seat = if seat % 7 == 4 then Watches else (if seat % 7 == 5 || seat % 7 == 6 then Questions else Orders)

-- an order about the same domain is pending, of the same operator
abbrev pub is_about : Option ℕ → Order → SeatQueueState → Bool
is_about operator o q =
    is_same_operator q.operator operator && list_any (λ p. are_of_one_domain p.order o) q.pending

-- an order of this operator belongs there
abbrev pub takes_of : Option ℕ → Order → SeatQueueState → Bool
takes_of operator o q = is_same_operator q.operator operator && takes q.lane o

-- and nothing is pending that would hold it up
abbrev pub may_take : Option ℕ → Order → SeatQueueState → Bool
may_take operator o q = takes_of operator o q && (is_shared q.lane || length q.pending == 0)

-- the first of two places
abbrev pub or_place : Option ℕ → Option ℕ → Option ℕ
or_place (Some place) other = Some place
or_place None other = other

-- an operator who has no such seat has that of nobody, the last one
abbrev pub unless_known : Bool → ℕ → Option ℕ
unless_known true last = None
unless_known false last = Some last

-- commands on this domain are pending, and fewer than eight
abbrev pub is_further : Option ℕ → List PendingOrder → Bool
is_further None pending = false
is_further (Some d) pending = nat_lt (length pending) most_work && list_all (λ p. is_on d p.order) pending

-- one about the same domain is pending, and the station takes both at a time
abbrev pub joins : Option ℕ → Order → SeatQueueState → Bool
joins operator o q = is_about operator o q && is_further (commanded o) q.pending

-- The seat that takes an order now, if one does. While an order about the same domain is pending, that is the seat of
-- that order, if the station takes both at a time: so they keep their order, and what is submitted does not wait there.
-- Else it is the first at which nothing would hold it up.
abbrev pub lane_for : List SeatQueueState → ℕ → Option ℕ → Order → Option ℕ
lane_for queues last operator o =
    if list_any (is_about operator o) queues then position (joins operator o) queues
    else or_place (position (may_take operator o) queues)
    (unless_known (list_any (takes_of operator o) queues) last)
