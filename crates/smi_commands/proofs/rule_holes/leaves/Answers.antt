use Rattle.std.proofs.Common.{rules, tests, ◌==◌, not}
use Rattle.std.proofs.lemmas.Iterator.Search.{any_from_yields_List}
use Rattle.smi_tree.specs.Lookups.{moved}
use Rattle.smi_commands.specs.Doubts.{leaves}
use Rattle.smi_commands.proofs.Numbers.{up_to}
use Rattle.smi_commands.proofs.rule_holes.leaves.Goals as goal

pub returns : goal.returns
unfolding leaves
returns c =
    any_from_yields_List
    (λ action. not (moved c.args.tree.now c.args.device c.args.state action == c.args.state))
    _ _ _ c.any.ensures.ran
    (up_to _ _ c.action_count.ensures.value)
    (λ x b q k. search (rules, tests))
