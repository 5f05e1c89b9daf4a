use Rattle.std.proofs.Common.{rules, ◌≡◌, Some}
use Rattle.smi_publish.specs.Published.{conditions_of}
use Rattle.smi_publish.proofs.Conditions.{evaluated_as}
use Rattle.smi_publish.proofs.publisher.Publisher.evaluate.Goals as goal

pub returns-clause-conditions : goal.returns-clause-conditions
returns-clause-conditions c =
    let here : conditions_of c.args.self.now c.args.domain ≡ Some c.in_ok-old.old = search rules in
    rw (c.report.ensures.conditions, c.unit_state.ensures)
    (evaluated_as c.args.tree.now (conditions_of c.args.self.now) c.args.domain c.args.members.now c.in_ok-old.old
    here)
