-- What of a step of the grants is handed out.
use Rattle.std.specs.Prelude.{ℕ, ◌&&◌, not, if◌then◌else◌, List, [], ◌∷◌, Option, Some, None, option_map, slice_get}
use Rattle.std.specs.Option.{option_or}
use Rattle.smi_grant.specs.Record.{Standing, is_settled}
use Rattle.smi_message.specs.Message.{Message}
use Rattle.smi_tree.specs.Hierarchy.{Hierarchy}
use Rattle.smi_protocol.specs.GrantStep.{GrantStep}
use Rattle.smi_protocol.specs.Messages.{tells_holder}
use Rattle.smi_command.specs.declared.Link.{Link}
use Rattle.smi_command.specs.declared.Link.TheVariants.{Out, Taking, Held, Dropping}
use Rattle.smi_command.specs.declared.Settlement.{Settlement}
use Rattle.smi_protocol.specs.Happening.{answer, answer_command}
use Rattle.smi_protocol.specs.Step as step
use Rattle.smi_protocol.specs.declared.Answer.{Answer}
use Rattle.smi_protocol.specs.declared.Order.TheVariants as order
use Rattle.smi_station_output.specs.Out.{answered_after, kept_after, sent_after}

-- a step of the grants is handed out: what it sends, whom it answers, what was issued, and what its save leaves
abbrev pub with_step : step.Out → GrantStep → step.Out
with_step out g = record {
  datagrams = sent_after out.datagrams g.sends;
  answers = answered_after out.answers g.answers;
  issued = option_or g.issued out.issued;
  shown = out.shown;
  kept = kept_after g.entries out.kept;
  passed = out.passed;
}

-- what is answered for the settlement at a place: the order is read off the link as it was
abbrev pub answer_at : ℕ → ℕ → Link → ℕ → Settlement → Option Answer
answer_at o d (Taking s) i x = Some (answer o (order.Take d) x.code)
answer_at o d (Dropping e) i x = Some (answer o (order.Drop d) x.code)
answer_at o d (Held e n p) i x = option_map (λ c. answer_command o d e x.number c x.code) (slice_get p i)
answer_at o d (Out k) i x = None

-- a domain's holder is told a record with which the domain's command ends
abbrev pub told_end : Hierarchy → ℕ → ℕ → Standing → Standing → List Message
told_end h number d old new = if not (is_settled old.phase) && is_settled new.phase
    then tells_holder h number d new ∷ [] else []
