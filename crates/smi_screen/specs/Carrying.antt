-- What the parts of a turn answer.
use Rattle.std.specs.Prelude.{ℕ, ◌≡◌, Bool, true, false, List, Result, Ok, Err}
use Rattle.smi_protocol.specs.declared.event.Event.{Event}
use Rattle.smi_protocol.specs.declared.event.Heard.{Heard}
use Rattle.smi_protocol.specs.declared.event.StepFault.{StepFault}
use Rattle.smi_protocol.specs.declared.event.StepFault.TheVariants as fault
use Rattle.smi_view.specs.Noted.{TakesIn}
use Rattle.smi_view.specs.Pictured.{Pictured}
use Rattle.smi_screen.specs.Looking.{Carries, Stepping, View}
use Rattle.smi_screen.specs.Noting.{datagram_notes}
use Rattle.smi_screen.specs.declared.observer.Stopped.{Stopped}

-- an event was carried, and the answer is that of its step, unless the station has stopped
abbrev pub CarriesSo : {T : Type 0} → Stepping T → Event → ℕ → View T → View T → Result (Result Heard StepFault) Stopped
    → Type 0
CarriesSo S e now before after (Ok made) = Carries S e now made before after false
CarriesSo S e now before after (Err f) = Carries S e now (Err fault.Stopped) before after true

-- what a datagram tells is noted, if it was taken
abbrev pub NotesSo : Bool → List ℕ → ℕ → Pictured → Pictured → Type 0
NotesSo true bytes now before after = TakesIn (datagram_notes bytes now) before after
NotesSo false bytes now before after = after ≡ before
