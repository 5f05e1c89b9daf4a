-- What of an event is noted in a picture.
use Rattle.std.specs.Prelude.{ℕ, Bool, true, false, ◌++◌, List, [], ◌∷◌, Option, Some, None, Result, Ok, Err}
use Rattle.std.specs.List.{flat_map}
use Rattle.smi_grant.specs.Record as grants
use Rattle.smi_grant.specs.declared.Shown.{Shown}
use Rattle.smi_message.specs.Message.{Message}
use Rattle.smi_message.specs.Spelling.{reading}
use Rattle.smi_message.specs.declared.Bad.{Bad}
use Rattle.smi_message.specs.declared.Body.{Body}
use Rattle.smi_message.specs.declared.Body.TheVariants as body
use Rattle.smi_protocol.specs.Step.{Out}
use Rattle.smi_protocol.specs.declared.event.Heard.{Heard}
use Rattle.smi_protocol.specs.declared.event.Heard.TheVariants as heard
use Rattle.smi_protocol.specs.declared.event.StepFault.{StepFault}
use Rattle.smi_protocol.specs.declared.order.Answer.{Answer}
use Rattle.smi_protocol.specs.declared.order.Order.{Order}
use Rattle.smi_protocol.specs.declared.order.Order.TheVariants as order
use Rattle.smi_view.specs.Noted.{Note, Showed, Told}

-- a state that a step showed
abbrev pub shown_notes : Option Shown → ℕ → List Note
shown_notes None now = []
shown_notes (Some shown) now = Showed shown now ∷ []

-- the record that a question was answered with
abbrev pub asked_notes : Order → Option grants.Standing → ℕ → List Note
asked_notes (order.Ask d) (Some told) now = Told d told now ∷ []
asked_notes _ _ now = []

abbrev pub answer_notes : ℕ → Answer → List Note
answer_notes now answer = asked_notes answer.told.order answer.told.asked now

-- all that a step handed out
abbrev pub handed_notes : Out → ℕ → List Note
handed_notes handed now = shown_notes handed.shown now ++ flat_map (answer_notes now) handed.answers

-- the record in a datagram, also if it answers no question that is still open
abbrev pub body_notes : Body → ℕ → List Note
body_notes (body.Tell d told) now = Told d told now ∷ []
body_notes _ now = []

abbrev pub message_notes : Result Message Bad → ℕ → List Note
message_notes (Ok m) now = body_notes m.body now
message_notes (Err bad) now = []

abbrev pub datagram_notes : List ℕ → ℕ → List Note
datagram_notes bytes now = message_notes (reading bytes) now

-- the station took the event, and did not refuse it
abbrev pub is_taken : Result Heard StepFault → Bool
is_taken (Ok heard.Same) = true
is_taken (Ok heard.Done) = true
is_taken _ = false
