-- What one event leaves of a node: of its station, its link, its desk and its board, and of what its observer saw.
use Rattle.std.specs.Prelude.{ℕ, ◌≡◌, Bool, true, false, List, Option, Some, None, Result, Ok, Err, OnOk}
use Rattle.smi_rows.specs.Store.{Rows}
use Rattle.smi_station_grants.specs.Save.{IfKept, IfMemory, IfStopped}
use Rattle.smi_protocol.specs.Step.{Out, Outcome, after_event, nothing_out}
use Rattle.smi_protocol.specs.declared.event.Event.{Event}
use Rattle.smi_protocol.specs.declared.event.Event.TheVariants as event
use Rattle.smi_protocol.specs.declared.event.Heard.{Heard}
use Rattle.smi_protocol.specs.declared.event.Heard.TheVariants as heard
use Rattle.smi_protocol.specs.declared.event.StepFault.{StepFault}
use Rattle.smi_protocol.specs.declared.event.StepFault.TheVariants as fault
use Rattle.smi_protocol.specs.declared.order.Answer.{Answer}
use Rattle.smi_protocol.specs.declared.order.Order.TheVariants as order
use Rattle.smi_operator.specs.declared.ends.Desk.{Desk}
use Rattle.smi_station.specs.Core.{Core, IsStoredIn, MaySendAll, Steps, is_stopped_by, number_of, station_of, tree_of}
use Rattle.smi_station_grants.specs.Leaving.{Leaves}
use Rattle.smi_station.specs.Readers.{Whole}
use Rattle.smi_station.specs.Wanting.{adds_by, wants_memory}
use Rattle.smi_link.specs.Link.{Grows}
use Rattle.smi_message.specs.Message.{Message}
use Rattle.smi_view.specs.Shows.{BoardShows}
use Rattle.smi_node.specs.declared.node.CarryFault.{CarryFault}
use Rattle.smi_node.specs.declared.node.CarryFault.TheVariants.{Stopped, Memory}
use Rattle.smi_node.specs.Linked.{LinkShows, Sends}
use Rattle.smi_node.specs.Observed.{Seen, SeesOne, stepped}
use Rattle.smi_node.specs.Shown.{Publishes, Refuses}
use Rattle.smi_node.specs.Told.{EndsReplaced, MarksNewest, TellsAll, TellsNewest}

-- what the event makes of a station that runs
abbrev pub outcome_of : Core → Event → Outcome
outcome_of c e = after_event (tree_of c) (number_of c) (station_of c) e

-- The station and its store go so from before to after in a step: all that is said of `Station::step`.
pub record StepsTo {S : Type 0} (is_honest is_open : S → Type 0) (rows : S → Rows)
    (may_find : S → Rows → Type 0) (saves failures doubts : S → ℕ)
    (before : Whole S) (e : Event) (after : Whole S) (handed : Out) (r : Result Heard StepFault) : Type 0 where
  pub step : before.core.is_stopped ≡ false → Steps before.core after.core (outcome_of before.core e) handed r
  pub store : before.core.is_stopped ≡ false
      → Leaves is_honest is_open rows may_find saves failures doubts before.store after.store r (outcome_of before.core
      e).saved
  pub memory : before.core.is_stopped ≡ false
      → IfMemory r (wants_memory (outcome_of before.core e).saved (adds_by (tree_of before.core)
      (number_of before.core) (station_of before.core).display e) ≡ true)
  pub stored : before.core.is_stopped ≡ false → is_honest after.store → is_open before.store
      → IsStoredIn (rows before.store) before.core → OnOk r (IsStoredIn (rows after.store) after.core)
  pub may_send : before.core.is_stopped ≡ false → OnOk r (MaySendAll after.core handed.datagrams)
  pub kept : IfKept r (after.core ≡ before.core)
  pub stops : IfStopped r (after.core ≡ record before.core { is_stopped = true })
  pub stopped : before.core.is_stopped ≡ true
      → (r ≡ Err fault.Stopped) × (handed ≡ nothing_out) × (after.store ≡ before.store)

-- what a station is served with: what its link shows, its desk, and what its board shows
pub record Edges : Type 0 where
  pub link : LinkShows
  pub desk : Desk
  pub board : BoardShows

abbrev pub edges : LinkShows → Desk → BoardShows → Edges
edges link desk board = record { link = link; desk = desk; board = board }

-- a node: a station, its edges, and what its observer saw
pub record Node (T : Type 0) : Type 0 where
  pub station : T
  pub edges : Edges
  pub seen : Seen

abbrev pub node : {T : Type 0} → T → Edges → Seen → Node T
node station edges seen = record { station = station; edges = edges; seen = seen }

-- the event is a report
abbrev pub is_report : Event → Bool
is_report (event.Report device state) = true
is_report (event.Order o (order.Report device state)) = true
is_report _ = false

-- the code that a step has for the giver of its event, which is a report or not
abbrev pub code_of : Bool → Result Heard StepFault → Option ℕ
code_of report (Ok (heard.Refused code)) = Some code
code_of true (Ok heard.Same) = Some 0
code_of true (Ok heard.Done) = Some 0
code_of false (Ok heard.Same) = None
code_of false (Ok heard.Done) = None
code_of report (Err fault.NotStored) = Some 31
code_of report (Err fault.Stopped) = None
code_of report (Err fault.Memory) = Some 33

-- the operator whose question an event is
abbrev pub asker_of : Event → Option ℕ
asker_of (event.Order o (order.Ask d)) = Some o
asker_of _ = None

-- that code goes to the newest order of the seat; if there is none, the answers go to their orders, and a question that
-- is asked again ends those that its operator asked before
abbrev pub Tells : List ℕ → (seat code asker : Option ℕ) → List Answer → Desk → Desk → Type 0
Tells operators seat (Some code) asker answers before after = TellsNewest seat code before after
Tells operators seat None asker answers before after =
    (told : Desk) × TellsAll operators answers before told × EndsReplaced operators seat asker told after

-- the fault of a result
abbrev pub fault_in : {X : Type 0} → Result X CarryFault → Option CarryFault
fault_in (Ok x) = None
fault_in (Err f) = Some f

-- all that follows a step: it is sent, its command marked, its answers told, what it showed published
pub record FollowsWhole (operators : List ℕ) (seat code asker : Option ℕ) (handed : Out) (before after : Edges)
    : Type 0 where
  pub sent : Sends handed.datagrams before.link after.link
  pub marked : Desk
  pub marks : MarksNewest seat handed.issued before.desk marked
  pub tells : Tells operators seat code asker handed.answers marked after.desk
  pub shown : Publishes handed.shown before.board after.board

-- the board refused: nothing is published and nothing answered
pub record FollowsRefused (seat : Option ℕ) (handed : Out) (before after : Edges) : Type 0 where
  pub sent : Sends handed.datagrams before.link after.link
  pub marks : MarksNewest seat handed.issued before.desk after.desk
  pub refused : Refuses handed.shown before.board after.board

abbrev pub Follows : List ℕ → (seat code asker : Option ℕ) → Out → Edges → Edges → Option CarryFault → Type 0
Follows operators seat code asker handed before after None = FollowsWhole operators seat code asker handed before after
Follows operators seat code asker handed before after (Some Stopped) = ⊥
Follows operators seat code asker handed before after (Some Memory) = FollowsRefused seat handed before after

-- what a step hands out is sent, unless it has stopped the station
abbrev pub SendsStep : Bool → List Message → LinkShows → LinkShows → Type 0
SendsStep true datagrams before after = after ≡ before
SendsStep false datagrams before after = Sends datagrams before after

-- a step that stopped the station is followed by nothing, and any other by what is said above
abbrev pub FollowsStep : Bool → List ℕ → (seat code asker : Option ℕ) → Out → Edges → Edges → Option CarryFault → Type 0
FollowsStep true operators seat code asker handed before after f = (f ≡ Some Stopped) × (after ≡ before)
FollowsStep false operators seat code asker handed before after f =
    Follows operators seat code asker handed before after f

-- An event is carried: it steps the station, the observer sees that, and what follows the step is done.
pub record Carries {T : Type 0} (StepsBy : T → Event → T → Out → Result Heard StepFault → Type 0)
    (operators : List ℕ) (e : Event) (seat : Option ℕ) (handed : Out) (before after : Node T) (f : Option CarryFault)
    : Type 0 where
  pub made : Result Heard StepFault
  pub steps : StepsBy before.station e after.station handed made
  pub follows : FollowsStep (is_stopped_by made) operators seat (code_of (is_report e) made) (asker_of e) handed
      before.edges
      after.edges f
  pub sees : SeesOne before.seen after.seen (stepped e made handed)
