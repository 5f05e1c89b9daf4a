use Rattle.smi_audit.proofs.Merging.{begun_means}
use Rattle.smi_audit.proofs.merge.merge_journals.Goals as goal

pub returns : goal.returns
returns c =
    begun_means c.verdict.result c.in_ok-merge.merge c.args.journals.now c.advance.new.self c.advance.new.journals
    c.args.tree.now c.in_ok-merge.ensures.tree c.in_ok-merge.ensures.safe c.in_ok-_moved.ensures.further
    c.verdict.ensures.means
