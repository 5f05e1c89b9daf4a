-- What contracts see of the service of all sessions.
use Rattle.std.specs.Prelude.{ℕ, ◌≡◌, ◌==◌, ◌∷◌, ◌++◌, Bool, true, false, List, [], codes, Option, Some, None}
use Rattle.smi_grant.specs.declared.state.Shown.{Shown}
use Rattle.smi_protocol.specs.declared.order.Order.{Order}
use Rattle.smi_protocol.specs.declared.order.Order.TheVariants as order
use Rattle.smi_protocol.specs.declared.order.Told.{Told}
use Rattle.smi_tree.specs.Hierarchy.{Hierarchy, entry}
use Rattle.smi_schedule.specs.Node.{report_text}
use Rattle.smi_schedule.specs.Text as trace
use Rattle.smi_schedule.specs.TraceWords.{called, object_word}
use Rattle.smi_node.specs.Told.{replaced}
use Rattle.smi_view.specs.Accepting.{is_newer}
use Rattle.smi_view.specs.Noted.{Showed, TakesIn}
use Rattle.smi_view.specs.Pictured.{Pictured, object_of}
use Rattle.smi_view.specs.Shows.{GlanceShows}
use Rattle.smi_view.specs.declared.sight.Sight.{Sight}
use Rattle.smi_session.specs.SeatTable.{SeatTableState}
use Rattle.smi_session.specs.declared.mode.ChildState.{ChildState}
use Rattle.smi_session.specs.declared.seat_table.SeatAnswer.{SeatAnswer}
use Rattle.smi_session.specs.declared.station_event.StationEvent.{StationEvent}
use Rattle.smi_session.specs.declared.station_event.StationEvent.TheVariants as event

-- the seats, what the board has shown, the newest states, the events that were recorded and not cleared, and how the
-- domains of the station have their children
pub record ServiceState : Type 0 where
  pub seats : SeatTableState
  pub board : GlanceShows
  pub picture : Pictured
  pub events : List StationEvent
  pub modes : List ChildState

abbrev pub new_service : SeatTableState → GlanceShows → Pictured → ServiceState
new_service seats board picture = record {
  seats = seats;
  board = board;
  picture = picture;
  events = [];
  modes = [];
}

-- a question that another one of its operator has replaced
abbrev pub replaced_text : Hierarchy → (operator domain : ℕ) → List ℕ
replaced_text h operator domain = trace.line_of (codes "replaced")
    (called (entry h.operator_names operator) operator ∷ codes "ask" ∷ object_word h domain ∷ [])

abbrev pub asked_text : Bool → Hierarchy → (operator domain : ℕ) → Told → List ℕ
asked_text true h operator domain told = replaced_text h operator domain
asked_text false h operator domain told = trace.told_text h operator told

abbrev pub ending_of : Order → Hierarchy → ℕ → Told → List ℕ
ending_of (order.Ask d) h operator told = asked_text (told.code == replaced) h operator d told
ending_of _ h operator told = trace.told_text h operator told

-- how an order of an operator ended
abbrev pub ending_text : Hierarchy → ℕ → Told → List ℕ
ending_text h operator told = ending_of told.order h operator told

-- how an order ended, by its operator; a report is nobody's
abbrev pub told_by : Hierarchy → Option ℕ → Told → List ℕ
told_by h (Some operator) told = ending_text h operator told
told_by h None told = report_text h told

abbrev pub told_text : Hierarchy → SeatAnswer → List ℕ
told_text h answer = told_by h answer.operator answer.told

-- a state is newer than what is known of its object
abbrev pub is_newer_than : Option Sight → Shown → Bool
is_newer_than None shown = true
is_newer_than (Some seen) shown = is_newer shown.version seen.shown.version

abbrev pub is_new : Pictured → Shown → Bool
is_new picture shown = is_newer_than (object_of picture shown.object) shown

abbrev pub with_event : StationEvent → ServiceState → ServiceState
with_event e s = record s { events = s.events ++ e ∷ [] }

-- a state that is not new is no event; a new one is, and is the newest that is known of its object
abbrev pub RecordsState : Bool → Shown → ServiceState → ServiceState → Type 0
RecordsState false shown a b = b ≡ a
RecordsState true shown a b = TakesIn (Showed shown 0 ∷ []) a.picture b.picture
    × (b ≡ record (with_event (event.StateChanged shown) a) { picture = b.picture })

-- an event is recorded
abbrev pub Records : StationEvent → ServiceState → ServiceState → Type 0
Records (event.StateChanged shown) a b = RecordsState (is_new a.picture shown) shown a b
Records (event.ActionDone done) a b = b ≡ with_event (event.ActionDone done) a
Records (event.Lagged count) a b = b ≡ with_event (event.Lagged count) a
