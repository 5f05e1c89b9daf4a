-- What a node does in its turns: a list of carries, each from where the one before left all.
use Rattle.std.specs.Prelude.{ℕ, zero, suc, ◌≡◌, ◌<◌, ◌≤◌, ◌+◌, ◌==◌, ◌++◌, ◌⊎◌, Bool, true, false, if◌then◌else◌}
use Rattle.std.specs.Prelude.{List, [], ◌∷◌, length, slice_get, Option, Some, None, IfSome, Result, Ok, Err}
use Rattle.smi_protocol.specs.Step.{Out}
use Rattle.smi_protocol.specs.declared.event.Event.{Event}
use Rattle.smi_protocol.specs.declared.event.Event.TheVariants as event
use Rattle.smi_protocol.specs.declared.event.Heard.{Heard}
use Rattle.smi_protocol.specs.declared.event.StepFault.{StepFault}
use Rattle.smi_protocol.specs.declared.order.Order.{Order}
use Rattle.smi_protocol.specs.declared.order.Order.TheVariants as order
use Rattle.smi_link.specs.Link.{Grows}
use Rattle.smi_operator.specs.Sides.{Gives, Steps, left, room, seat_count, seat_end, work_of}
use Rattle.smi_operator.specs.Working.{may_join}
use Rattle.smi_operator.specs.declared.ends.Desk.{Desk}
use Rattle.smi_operator.specs.declared.ends.SeatEnd.{SeatEnd}
use Rattle.smi_node.specs.Carried.{Carries, Node, edges, node}
use Rattle.smi_node.specs.Linked.{LinkShows}
use Rattle.smi_node.specs.Told.{TellsNewest}
use Rattle.smi_node.specs.declared.node.CarryFault.{CarryFault}
use Rattle.smi_node.specs.declared.node.CarryFault.TheVariants as carry
use Rattle.smi_node.specs.declared.turns.ServeFault.{ServeFault}
use Rattle.smi_node.specs.declared.turns.ServeFault.TheVariants as serve

-- How an event of a seat, or of none, may be carried from one node to another, and with which fault.
abbrev pub Carrying : Type 0 → Type 1
Carrying T = Event → Option ℕ → Node T → Node T → Option CarryFault → Type 0

-- it is carried, whatever its step handed out
abbrev pub carrying : {T : Type 0} → (T → Event → T → Out → Result Heard StepFault → Type 0) → List ℕ → Carrying T
carrying StepsBy operators e seat before after f =
    (handed : Out) × Carries StepsBy operators e seat handed before after f

abbrev pub with_link : {T : Type 0} → Node T → LinkShows → Node T
with_link n link = node n.station (edges link n.edges.desk n.edges.board) n.seen

abbrev pub with_desk : {T : Type 0} → Node T → Desk → Node T
with_desk n desk = node n.station (edges n.edges.link desk n.edges.board) n.seen

-- What comes over the link.

-- the bytes of a datagram come, or nothing does, or the link fails
pub data Coming : Type 0 where
  Came : List ℕ → Coming
  Quiet : Coming
  Failed : Coming

abbrev pub is_failed : Coming → Bool
is_failed (Came bytes) = false
is_failed Quiet = false
is_failed Failed = true

-- the link is asked once: what it gives is a datagram, which it tells
abbrev pub ReceivesOne : List ℕ → LinkShows → LinkShows → Type 0
ReceivesOne bytes before after = Grows before.received after.received bytes × (after.handed ≡ before.handed)
    × (after.failures ≡ before.failures) × (after.receives ≡ before.receives + 1)

-- it is asked once, and nothing has come; or it fails once more
abbrev pub ReceivesNone : LinkShows → LinkShows → Type 0
ReceivesNone before after = (after.received ≡ before.received) × (after.handed ≡ before.handed)
    × (after.failures ≡ before.failures) × (after.receives ≡ before.receives + 1)

abbrev pub FailsOnce : LinkShows → LinkShows → Type 0
FailsOnce before after = (after.received ≡ before.received) × (after.handed ≡ before.handed)
    × (after.failures ≡ before.failures + 1) × (after.receives ≡ before.receives + 1)

-- the event is the delivery of these bytes
abbrev pub IsDelivery : List ℕ → Event → Type 0
IsDelivery bytes (event.Datagram b) = b.now ≡ bytes
IsDelivery bytes (event.Order o what) = ⊥
IsDelivery bytes (event.Report device state) = ⊥
IsDelivery bytes event.Tick = ⊥

-- the link is asked once, and a datagram is carried as its delivery, nothing as a tick; a fault is not carried
abbrev pub Hears : {T : Type 0} → Carrying T → Coming → Node T → Node T → Option CarryFault → Type 0
Hears C (Came bytes) before after f =
    (link : LinkShows) × ReceivesOne bytes before.edges.link link × (e : Event) × IsDelivery bytes e
    × C e None (with_link before link) after f
Hears C Quiet before after f =
    (link : LinkShows) × ReceivesNone before.edges.link link × C event.Tick None (with_link before link) after f
Hears C Failed before after f =
    (link : LinkShows) × FailsOnce before.edges.link link × (f ≡ None) × (after ≡ with_link before link)

-- What the seats give.

-- the operator of a seat: the last of these seats is nobody's
abbrev pub operator_of_seat : List ℕ → ℕ → ℕ → Option ℕ
operator_of_seat operators seats seat = if seat + 1 == seats then None else slice_get operators seat

-- the event that an order of this operator, or of nobody, is; nobody may order, and everybody may report
abbrev pub event_of : Option ℕ → Order → Option Event
event_of who (order.Report device state) = Some (event.Report device state)
event_of (Some operator) what = Some (event.Order operator what)
event_of None what = None

-- the code of an order that is not for this station
abbrev pub not_here : ℕ
not_here = 26

-- an order is carried as its event, or ends at once
abbrev pub Obeys : {T : Type 0} → Carrying T → ℕ → Option Event → Node T → Node T → Option CarryFault → Type 0
Obeys C seat (Some e) before after f = C e (Some seat) before after f
Obeys C seat None before after f =
    (f ≡ None) × (desk : Desk) × TellsNewest (Some seat) not_here before.edges.desk desk
    × (after ≡ with_desk before desk)

-- an order that the seat gave is obeyed at once, if it gave one
abbrev pub ObeysGiven : {T : Type 0} → Carrying T → Option ℕ → ℕ → Option Order → Node T → Node T → Option CarryFault
    → Type 0
ObeysGiven C who seat (Some what) before after f = Obeys C seat (event_of who what) before after f
ObeysGiven C who seat None before after f = (f ≡ None) × (after ≡ before)

-- the seat is asked: an order that it is known to have, that may be given and has a place for its answer, is given
abbrev pub IsAsked : Option SeatEnd → Option Order → Type 0
IsAsked p given = IfSome p (λ a. IfSome (slice_get (left a) 0)
    (λ o. may_join (work_of a) o ≡ true → length (work_of a) < room a → given ≡ Some o))

-- a seat is served
abbrev pub ServesSeat : {T : Type 0} → Carrying T → Option ℕ → ℕ → Node T → Node T → Option CarryFault → Type 0
ServesSeat C who seat before after f =
    (given : Option Order) × (desk : Desk) × Steps before.edges.desk desk seat (Gives given)
    × IsAsked (seat_end before.edges.desk seat) given × ObeysGiven C who seat given (with_desk before desk) after f

-- this many seats are served, one after the other from 0
abbrev pub ServesSeats : {T : Type 0} → Carrying T → List ℕ → (seats many : ℕ) → Node T → Node T → Type 0
ServesSeats C operators seats zero before after = after ≡ before
ServesSeats {T} C operators seats (suc seat) before after =
    (between : Node T) × ServesSeats C operators seats seat before between
    × ServesSeat C (operator_of_seat operators seats seat) seat between after None

-- all seats are served, or those up to one that ends in a fault
abbrev pub ServesAll : {T : Type 0} → Carrying T → List ℕ → (seats : ℕ) → Node T → Node T → Option CarryFault → Type 0
ServesAll C operators seats before after None = ServesSeats C operators seats seats before after
ServesAll {T} C operators seats before after (Some f) =
    (seat : ℕ) × (seat < seats) × (between : Node T) × ServesSeats C operators seats seat before between
    × ServesSeat C (operator_of_seat operators seats seat) seat between after (Some f)

-- Turns.

-- a turn hears once and then serves the seats; it ends with the first fault
abbrev pub Turns : {T : Type 0} → Carrying T → List ℕ → Coming → Node T → Node T → Option CarryFault → Type 0
Turns {T} C operators coming before after None =
    (heard : Node T) × Hears C coming before heard None
    × ServesAll C operators (seat_count heard.edges.desk) heard after None
Turns {T} C operators coming before after (Some f) =
    Hears C coming before after (Some f)
    ⊎ ((heard : Node T) × Hears C coming before heard None
    × ServesAll C operators (seat_count heard.edges.desk) heard after (Some f))

-- whole turns, one after the other; what came in them is listed with the newest first
abbrev pub TakesTurns : {T : Type 0} → Carrying T → List ℕ → List Coming → Node T → Node T → Type 0
TakesTurns C operators [] before after = after ≡ before
TakesTurns {T} C operators (coming ∷ more) before after =
    (between : Node T) × TakesTurns C operators more before between × Turns C operators coming between after None

-- the newest of them, this many, were faults
abbrev pub AreFailed : ℕ → List Coming → Type 0
AreFailed zero comings = Unit {0}
AreFailed (suc n) [] = ⊥
AreFailed (suc n) (coming ∷ more) = (coming ≡ Failed) × AreFailed n more

-- how many faults in a row end the service
abbrev pub most_faults : ℕ
most_faults = 100

-- after whole turns one more ends in a fault
abbrev pub Breaks : {T : Type 0} → Carrying T → List ℕ → ℕ → List Coming → CarryFault → Node T → Node T → Type 0
Breaks {T} C operators turns comings f before after =
    (length comings < turns) × (between : Node T) × TakesTurns C operators comings before between
    × (coming : Coming) × Turns C operators coming between after (Some f)

-- all turns were made; or the last one ended in a fault, which is answered; or the link failed too often in a row
abbrev pub Ends : {T : Type 0} → Carrying T → List ℕ → ℕ → List Coming → Node T → Node T
    → Result (Unit {0}) ServeFault → Type 0
Ends C operators turns comings before after (Ok u) =
    (length comings ≡ turns) × TakesTurns C operators comings before after
Ends C operators turns comings before after (Err serve.Stopped) =
    Breaks C operators turns comings carry.Stopped before after
Ends C operators turns comings before after (Err serve.Memory) =
    Breaks C operators turns comings carry.Memory before after
Ends C operators turns comings before after (Err serve.Link) =
    (length comings ≤ turns) × TakesTurns C operators comings before after × AreFailed most_faults comings

-- What was received in whole turns, in the order in which it came.

abbrev pub came_with : Coming → List (List ℕ)
came_with (Came bytes) = bytes ∷ []
came_with Quiet = []
came_with Failed = []

abbrev pub came_in : List Coming → List (List ℕ)
came_in [] = []
came_in (coming ∷ more) = came_in more ++ came_with coming

-- and how often the link failed to receive
abbrev pub failed_with : Coming → ℕ
failed_with (Came bytes) = 0
failed_with Quiet = 0
failed_with Failed = 1

abbrev pub failed_in : List Coming → ℕ
failed_in [] = 0
failed_in (coming ∷ more) = failed_in more + failed_with coming

-- there were whole turns alone
abbrev pub IfWhole : {X : Type 0} → Result X ServeFault → Type 0 → Type 0
IfWhole (Ok x) P = P
IfWhole (Err serve.Stopped) P = Unit {0}
IfWhole (Err serve.Memory) P = Unit {0}
IfWhole (Err serve.Link) P = P

abbrev pub IfLinkFailed : {X : Type 0} → Result X ServeFault → Type 0 → Type 0
IfLinkFailed (Ok x) P = Unit {0}
IfLinkFailed (Err serve.Stopped) P = Unit {0}
IfLinkFailed (Err serve.Memory) P = Unit {0}
IfLinkFailed (Err serve.Link) P = P

-- how many turns were begun: the whole ones, and then one that ended in a fault, if one did
abbrev pub begun_in : {X : Type 0} → Result X ServeFault → List Coming → ℕ
begun_in (Ok x) comings = length comings
begun_in (Err serve.Stopped) comings = length comings + 1
begun_in (Err serve.Memory) comings = length comings + 1
begun_in (Err serve.Link) comings = length comings

-- A node serves this many turns, in which, as far as they are whole, this came, the newest first: what the link tells
-- as received is what came, it counts each of its faults, and it was asked once in each turn that was begun.
pub record Serves {T : Type 0} (C : Carrying T) (operators : List ℕ) (turns : ℕ) (before after : Node T)
    (r : Result (Unit {0}) ServeFault) : Type 0 where
  pub comings : List Coming
  pub ends : Ends C operators turns comings before after r
  pub received
      : IfWhole r (IfSome before.edges.link.received (λ xs. after.edges.link.received ≡ Some (xs ++ came_in comings)))
  pub failures : IfWhole r (before.edges.link.failures + failed_in comings ≤ after.edges.link.failures)
  pub receives : after.edges.link.receives ≡ before.edges.link.receives + begun_in r comings
  pub spent : IfLinkFailed r (before.edges.link.failures + most_faults ≤ after.edges.link.failures)
