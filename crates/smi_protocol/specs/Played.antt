-- Worked examples, as docs/EXAMPLES.md has them: what is done, line by line, and what is seen of it in the trace.
use Rattle.std.specs.Prelude.{ℕ, ◌≡◌, ◌+◌, List, [], ◌∷◌, ◌++◌, length, map, Option, option_map}
use Rattle.smi_message.specs.declared.Body.{Body}
use Rattle.smi_message.specs.declared.Body.TheVariants as body
use Rattle.smi_message.specs.Message.{Message}
use Rattle.smi_tree.specs.Hierarchy.{Hierarchy}
use Rattle.smi_protocol.specs.Step.{Outcome, after}
use Rattle.smi_protocol.specs.Schedule.{World, first_world, turn, arrival_of, trace_of, opening_lines}
use Rattle.smi_protocol.specs.declared.entry.Entry.{Entry}
use Rattle.smi_protocol.specs.declared.order.Order.{Order}
use Rattle.smi_protocol.specs.declared.item.Deed.{Deed}
use Rattle.smi_protocol.specs.declared.item.Deed.TheVariants as deed
use Rattle.smi_protocol.specs.declared.item.Moment.TheVariants as moment
use Rattle.smi_protocol.specs.declared.item.Item.{Item}
use Rattle.smi_protocol.specs.declared.item.Item.TheVariants as item
use Rattle.smi_protocol.specs.declared.item.Line.{Line as TraceLine}
use Rattle.smi_protocol.specs.declared.item.Line.TheVariants as trace_line

-- What is done.

-- the datagram of a number is delivered, of all that were sent, from 1
abbrev pub deliver : ℕ → Item
deliver k = item.Do (deed.Deliver k)

-- an operator orders
abbrev pub orders : (operator : ℕ) → Order → Item
orders o what = item.Do (deed.Order o what)

-- a station ticks
abbrev pub tick_at : (station : ℕ) → Item
tick_at station = item.Do (deed.Tick station)

-- a station stops after the save of what the datagram of a number brings about, and is started again
abbrev pub stop_after : (station : ℕ) → ℕ → Item
stop_after station k = item.Stop station moment.After (deed.Deliver k)

-- What is seen.

-- Which kind of datagram was sent, from whom to whom, and which domain or object it is about.
pub data Kind : Type 0 where
  ASK : Kind
  TAKE : Kind
  DROP : Kind
  RUN : Kind
  TELL : Kind
  WATCH : Kind
  STATE : Kind
  UNWATCH : Kind

-- the kind of a datagram
abbrev pub kind_of : Body → Kind
kind_of (body.Ask d) = ASK
kind_of (body.Take d who s) = TAKE
kind_of (body.Drop d who e) = DROP
kind_of (body.Run d who e n c) = RUN
kind_of (body.Tell d r) = TELL
kind_of (body.Watch x echo) = WATCH
kind_of (body.State x echo v s) = STATE
kind_of (body.Unwatch x echo) = UNWATCH

-- the domain or object of a datagram
abbrev pub subject_of : Body → ℕ
subject_of (body.Ask d) = d
subject_of (body.Take d who s) = d
subject_of (body.Drop d who e) = d
subject_of (body.Run d who e n c) = d
subject_of (body.Tell d r) = d
subject_of (body.Watch x echo) = x
subject_of (body.State x echo v s) = x
subject_of (body.Unwatch x echo) = x

-- a datagram as an example shows it
pub record Sending : Type 0 where
  pub kind : Kind
  pub from : ℕ
  pub to : ℕ
  pub subject : ℕ

-- a datagram of this kind, from one to another, about that domain or object
abbrev pub sends : Kind → ℕ → ℕ → ℕ → Sending
sends kind from to subject = record { kind = kind; from = from; to = to; subject = subject }

-- how an example shows a datagram
abbrev pub sending_of : Message → Sending
sending_of m = sends (kind_of m.body) m.from m.to (subject_of m.body)

-- A line of a trace as an example shows it: an entry, or which datagram was sent.
pub data Shown : Type 0 where
  Says : Entry → Shown
  Sends : (number : ℕ) → Sending → Shown

abbrev pub shown_of : TraceLine → Shown
shown_of (trace_line.Entry x) = Says x
shown_of (trace_line.Sent number m) = Sends number (sending_of m)

-- datagrams are numbered through an example
abbrev pub numbered : ℕ → List Sending → List Shown
numbered number [] = []
numbered number (x ∷ more) = Sends number x ∷ numbered (number + 1) more

-- An example: what is done, line by line, and the entries and datagrams that are seen of it.
pub record Line : Type 0 where
  pub what : Item
  pub entries : List Entry
  pub sendings : List Sending

-- a line of an example: the item, its entries, its datagrams
abbrev pub line : Item → List Entry → List Sending → Line
line what entries sendings = record { what = what; entries = entries; sendings = sendings }

-- the lines of an example in the trace, of which the next datagram has this number
abbrev pub lines_from : ℕ → List Line → List Shown
lines_from number [] = []
lines_from number (x ∷ more) =
    map Says x.entries ++ numbered number x.sendings ++ lines_from (number + length x.sendings) more

-- the schedule of an example makes the trace that the example says
abbrev pub Makes : Hierarchy → List Line → Type 0
Makes h lines =
    map shown_of (trace_of h (map (λ x. x.what) lines)) ≡ map shown_of (opening_lines h) ++ lines_from 1 lines

-- Beside the trace: what a deed after an example hands out and saves.

-- where an example leads
abbrev pub world_from : Hierarchy → World → List Line → World
world_from h w [] = w
world_from h w (x ∷ more) = world_from h (turn h w x.what).world more

-- the step of the station that a deed is for
abbrev pub outcome_in : Hierarchy → World → Deed → Option Outcome
outcome_in h w what = option_map (λ x. after h x.station (w.stations x.station) x.what) (arrival_of h w what)

abbrev pub outcome_after : Hierarchy → List Line → Deed → Option Outcome
outcome_after h lines what = outcome_in h (world_from h (first_world h) lines) what
