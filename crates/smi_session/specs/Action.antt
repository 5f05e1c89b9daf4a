-- Which action the step of an event did, and at which devices.
use Rattle.std.specs.Prelude.{ℕ, ◌&&◌, nat_le, List, Option, Some, None, option_map, Result, Ok, Err, if◌then◌else◌}
use Rattle.smi_grant.specs.declared.Command.{Command}
use Rattle.smi_grant.specs.declared.Command.TheVariants as command
use Rattle.smi_message.specs.Message.{Message}
use Rattle.smi_message.specs.Spelling.{reading}
use Rattle.smi_message.specs.declared.Bad.{Bad}
use Rattle.smi_message.specs.declared.Body.{Body}
use Rattle.smi_message.specs.declared.Body.TheVariants as body
use Rattle.smi_protocol.specs.declared.event.Event.{Event}
use Rattle.smi_protocol.specs.declared.event.Event.TheVariants as event
use Rattle.smi_protocol.specs.declared.event.Heard.{Heard}
use Rattle.smi_protocol.specs.declared.event.Heard.TheVariants as heard
use Rattle.smi_protocol.specs.declared.event.StepFault.{StepFault}
use Rattle.smi_tree.specs.Hierarchy.{Hierarchy}
use Rattle.smi_tree.specs.Lookups.{accepts, devices_of, domain_count}

-- a domain does the actions that it accepts
abbrev pub action_of : Hierarchy → ℕ → Command → Option ℕ
action_of h d (command.Do a) = if accepts h d a then Some a else None
action_of h d _ = None

-- a command that has run at a domain is done at each of its devices
-- with the domain, and the epoch and the number of the command
abbrev pub done_at : Hierarchy → (domain epoch number : ℕ) → Command → Option (ℕ × List ℕ × ℕ × ℕ × ℕ)
done_at h d e n c = if nat_le 1 d && nat_le d (domain_count h)
    then option_map (λ a. (a, devices_of h d, d, e, n)) (action_of h d c) else None

abbrev pub run_action : Hierarchy → Body → Option (ℕ × List ℕ × ℕ × ℕ × ℕ)
run_action h (body.Run d who e n c) = done_at h d e n c
run_action h _ = None

abbrev pub done_in : Hierarchy → Result Message Bad → Option (ℕ × List ℕ × ℕ × ℕ × ℕ)
done_in h (Ok m) = run_action h m.body
done_in h (Err bad) = None

-- a command has run if the step of its datagram saved a row
abbrev pub step_action : Hierarchy → Event → Result Heard StepFault → Option (ℕ × List ℕ × ℕ × ℕ × ℕ)
step_action h (event.Datagram bytes) (Ok heard.Done) = done_in h (reading bytes.now)
step_action h _ _ = None
