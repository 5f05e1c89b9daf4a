use Rattle.std.proofs.Common.{rules, ◌≡◌, Some}
use Rattle.smi_publish.specs.Published.{conditions_of}
use Rattle.smi_publish.proofs.Conditions.{moved_as}
use Rattle.smi_publish.proofs.publisher.Publisher.act.Goals as goal

pub returns-clause-conditions : goal.returns-clause-conditions
returns-clause-conditions c =
    let here : conditions_of c.args.self.now c.args.object ≡ Some c.in_ok-old.old = search rules in
    rw (c.report.ensures.conditions, c.moved.ensures, c.domain_count.ensures.value)
    (moved_as c.args.tree.now (conditions_of c.args.self.now) c.args.action c.args.object c.in_ok-old.old here)
