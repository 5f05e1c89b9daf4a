-- What an observer does in its turns: a list of deeds, each from where the one before left all.
use Rattle.std.specs.Prelude.{ℕ, ◌≡◌, Bool, true, false, List, [], ◌∷◌, Result, Ok, Err}
use Rattle.smi_protocol.specs.Step.{Out}
use Rattle.smi_protocol.specs.declared.event.Event.{Event}
use Rattle.smi_protocol.specs.declared.event.Event.TheVariants as event
use Rattle.smi_protocol.specs.declared.event.Heard.{Heard}
use Rattle.smi_protocol.specs.declared.event.StepFault.{StepFault}
use Rattle.smi_protocol.specs.declared.order.Order.TheVariants as order
use Rattle.smi_station.specs.Core.{is_stopped_by}
use Rattle.smi_node.specs.Linked.{LinkShows, Sends}
use Rattle.smi_node.specs.Served.{FailsOnce, IsDelivery, ReceivesNone, ReceivesOne}
use Rattle.smi_view.specs.Noted.{TakesIn}
use Rattle.smi_view.specs.Pictured.{Pictured}
use Rattle.smi_screen.specs.Noting.{datagram_notes, handed_notes, is_taken}

-- what an observer works with: its station, what its link shows, and its picture
pub record View (T : Type 0) : Type 0 where
  pub station : T
  pub link : LinkShows
  pub picture : Pictured

abbrev pub view : {T : Type 0} → T → LinkShows → Pictured → View T
view station link picture = record { station = station; link = link; picture = picture }

abbrev pub with_link : {T : Type 0} → View T → LinkShows → View T
with_link v link = view v.station link v.picture

-- How a station steps.
abbrev pub Stepping : Type 0 → Type 1
Stepping T = T → Event → T → Out → Result Heard StepFault → Type 0

-- a step that stopped the station is followed by nothing; what any other hands out is sent, and noted at this time
abbrev pub Follows : {T : Type 0} → Bool → Out → ℕ → View T → View T → Bool → Type 0
Follows true handed now before after stopped =
    (stopped ≡ true) × (after.link ≡ before.link) × (after.picture ≡ before.picture)
Follows false handed now before after stopped =
    (stopped ≡ false) × Sends handed.datagrams before.link after.link
    × TakesIn (handed_notes handed now) before.picture after.picture

-- An event is carried: it steps the station, and what follows the step does. The station has stopped, or not.
pub record Carries {T : Type 0} (S : Stepping T) (e : Event) (now : ℕ) (made : Result Heard StepFault)
    (before after : View T) (stopped : Bool) : Type 0 where
  pub handed : Out
  pub steps : S before.station e after.station handed made
  pub follows : Follows (is_stopped_by made) handed now before after stopped

-- whatever the step answered
abbrev pub Carried : {T : Type 0} → Stepping T → Event → ℕ → View T → View T → Bool → Type 0
Carried S e now before after stopped =
    (made : Result Heard StepFault) × Carries S e now made before after stopped

-- the record in a datagram that was taken is noted
abbrev pub NotesTaken : {T : Type 0} → Bool → List ℕ → ℕ → View T → View T → Type 0
NotesTaken true bytes now before after =
    (after.station ≡ before.station) × (after.link ≡ before.link)
    × TakesIn (datagram_notes bytes now) before.picture after.picture
NotesTaken false bytes now before after = after ≡ before

-- a datagram is carried, and if it was taken, its record noted
abbrev pub Delivers : {T : Type 0} → Stepping T → List ℕ → ℕ → View T → View T → Bool → Type 0
Delivers {T} S bytes now before after stopped =
    (e : Event) × IsDelivery bytes e × (made : Result Heard StepFault) × (between : View T)
    × Carries S e now made before between stopped × NotesTaken (is_taken made) bytes now between after

-- What an observer does: it asks the link, and a datagram comes, or nothing does, or the link fails; it watches an
-- object, asks about a domain, or lets its station send again.
pub data Deed : Type 0 where
  Comes : List ℕ → Deed
  Waits : Deed
  Fails : Deed
  Watches : ℕ → Deed
  Asks : ℕ → Deed
  Ticks : Deed

abbrev pub Does : {T : Type 0} → Stepping T → ℕ → Deed → ℕ → View T → View T → Bool → Type 0
Does S operator (Comes bytes) now before after stopped =
    (link : LinkShows) × ReceivesOne bytes before.link link
    × Delivers S bytes now (with_link before link) after stopped
Does S operator Waits now before after stopped =
    (link : LinkShows) × ReceivesNone before.link link × (stopped ≡ false) × (after ≡ with_link before link)
Does S operator Fails now before after stopped =
    (link : LinkShows) × FailsOnce before.link link × (stopped ≡ false) × (after ≡ with_link before link)
Does S operator (Watches x) now before after stopped =
    Carried S (event.Order operator (order.Watch x)) now before after stopped
Does S operator (Asks d) now before after stopped =
    Carried S (event.Order operator (order.Ask d)) now before after stopped
Does S operator Ticks now before after stopped = Carried S event.Tick now before after stopped

-- deeds, each with its time, the newest first
abbrev pub DoesAll : {T : Type 0} → Stepping T → ℕ → List (Deed × ℕ) → View T → View T → Type 0
DoesAll S operator [] before after = after ≡ before
DoesAll {T} S operator (deed ∷ deeds) before after =
    (between : View T) × DoesAll S operator deeds before between
    × Does S operator deed.0 deed.1 between after false

-- An observer looks: some deeds were done, and nothing else; if the station has stopped, in the last of them.
abbrev pub Looks : {T : Type 0} → Stepping T → ℕ → View T → View T → Bool → Type 0
Looks S operator before after false = (deeds : List (Deed × ℕ)) × DoesAll S operator deeds before after
Looks {T} S operator before after true =
    (deeds : List (Deed × ℕ)) × (between : View T) × DoesAll S operator deeds before between
    × (last : Deed × ℕ) × Does S operator last.0 last.1 between after true

-- a result says that the station has stopped
abbrev pub has_stopped : {X E : Type 0} → Result X E → Bool
has_stopped (Ok x) = false
has_stopped (Err e) = true
