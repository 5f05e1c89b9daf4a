-- What an observer of a node is told, and what it notes.
use Rattle.std.specs.Prelude.{List, Option, None, Result}
use Rattle.smi_protocol.specs.Step.{Out}
use Rattle.smi_protocol.specs.declared.event.Event.{Event}
use Rattle.smi_protocol.specs.declared.event.Heard.{Heard}
use Rattle.smi_protocol.specs.declared.event.StepFault.{StepFault}
use Rattle.smi_link.specs.Link.{Grows}

-- a step: its event, what it answered, and what it handed out
pub record Stepped : Type 0 where
  pub event : Event
  pub made : Result Heard StepFault
  pub handed : Out

abbrev pub stepped : Event → Result Heard StepFault → Out → Stepped
stepped event made handed = record { event = event; made = made; handed = handed }

-- the steps that an observer was told, if it tells that, and what the steps handed out that it noted, if it notes them
pub record Seen : Type 0 where
  pub told : Option (List Stepped)
  pub noted : Option (List Out)

abbrev pub nothing_seen : Seen
nothing_seen = record { told = None; noted = None }

-- it is told one step more, and notes what that handed out
pub record SeesOne (before after : Seen) (s : Stepped) : Type 0 where
  pub told : Grows before.told after.told s
  pub noted : Grows before.noted after.noted s.handed
