use Rattle.std.proofs.Common.{sym, subst}
use Rattle.smi_watchers.specs.Ring.{Node}
use Rattle.smi_watchers.specs.Walked.{Chain, walked}
use Rattle.smi_watchers.proofs.Walks.{row_walked}
use Rattle.smi_watchers.proofs.lists.Lists.steps.Goals as goal

pub invariant_of-result : goal.invariant_of-result
invariant_of-result c =
    let w = c.requires.whole in let n = c.args.self.now in
    subst (λ (m : Node). Chain n m (walked n m)) (sym c.first.ensures)
    (row_walked w.0 w.1 n w.2 c.args.object c.requires.object).1
