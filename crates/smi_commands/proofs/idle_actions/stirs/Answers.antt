use Rattle.std.proofs.Common.{rules, tests, ◌==◌, not}
use Rattle.std.proofs.lemmas.Iterator.Search.{any_from_yields_List}
use Rattle.smi_tree.specs.Lookups.{moved}
use Rattle.smi_commands.specs.Doubts.{stirs}
use Rattle.smi_commands.proofs.Numbers.{up_to}
use Rattle.smi_commands.proofs.idle_actions.stirs.Goals as goal

pub returns : goal.returns
unfolding stirs
returns c =
    any_from_yields_List
    (λ from. not (moved c.args.tree.now c.args.device from c.args.action == from))
    _ _ _ c.any.ensures.ran
    (up_to _ _ c.state_count.ensures.value)
    (λ x b q k. search (rules, tests))
