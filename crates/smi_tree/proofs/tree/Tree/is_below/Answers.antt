use Rattle.std.proofs.Common.{ap, ◌∙◌}
use Rattle.std.specs.Prelude.{is_some}
use Rattle.smi_tree.proofs.Ways.{is_some-towards}
use Rattle.smi_tree.proofs.tree.Tree.is_below.Goals as goal

pub returns : goal.returns
returns c =
    c.is_some.ensures ∙ ap is_some c.child_towards.ensures
    ∙ is_some-towards 8 c.args.self.now.domains c.args.domain c.args.target
