use Rattle.std.proofs.Common.{refl}
use Rattle.smi_audit.proofs.Merging.{all_taken, some_taken}
use Rattle.smi_audit.proofs.merge.Merge.verdict.Goals as goal

pub returns-then-are_empty-clause-means : goal.returns-then-are_empty-clause-means
returns-then-are_empty-clause-means c = λ base from f.
    all_taken c.args.self.now c.args.journals.now c.args.self.now.domains.tree base from refl f
    (c.are_empty.ensures.empty c.if-are_empty.true)

pub returns-else-are_empty-clause-means : goal.returns-else-are_empty-clause-means
returns-else-are_empty-clause-means c = λ base from f.
    some_taken c.args.self.now c.args.journals.now c.args.self.now.domains.tree base from refl f
