use Rattle.std.proofs.Common.{◌∙◌, ap, sym}
use Rattle.smi_grant.specs.declared.Command.{Command}
use Rattle.smi_protocol.specs.Keeping.{child_entries, entries_at}
use Rattle.smi_station_decide.proofs.run.of_child.Goals as goal

pub returns-in-Include : goal.returns-in-Include
returns-in-Include c = λ h g so.
    c.at_target.ensures h g c.args.command so
    ∙ ap (λ (k : Command). entries_at h g c.args.domain k c.in-Include.target) c.in-Include.is
    ∙ sym (ap (λ (k : Command). child_entries h g c.args.domain k) c.in-Include.is)

pub returns-in-Exclude : goal.returns-in-Exclude
returns-in-Exclude c = λ h g so.
    c.at_target-in-Exclude.ensures h g c.args.command so
    ∙ ap (λ (k : Command). entries_at h g c.args.domain k c.in-Exclude.target) c.in-Exclude.is
    ∙ sym (ap (λ (k : Command). child_entries h g c.args.domain k) c.in-Exclude.is)

pub returns-in-Manual : goal.returns-in-Manual
returns-in-Manual c = λ h g so.
    c.at_target-in-Manual.ensures h g c.args.command so
    ∙ ap (λ (k : Command). entries_at h g c.args.domain k c.in-Manual.target) c.in-Manual.is
    ∙ sym (ap (λ (k : Command). child_entries h g c.args.domain k) c.in-Manual.is)

pub returns-in-Ignore : goal.returns-in-Ignore
returns-in-Ignore c = λ h g so.
    c.at_target-in-Ignore.ensures h g c.args.command so
    ∙ ap (λ (k : Command). entries_at h g c.args.domain k c.in-Ignore.target) c.in-Ignore.is
    ∙ sym (ap (λ (k : Command). child_entries h g c.args.domain k) c.in-Ignore.is)
