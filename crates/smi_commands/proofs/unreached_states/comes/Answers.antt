use Rattle.std.proofs.Common.{rules, tests}
use Rattle.std.proofs.lemmas.Iterator.Search.{any_from_yields_List}
use Rattle.smi_commands.specs.Doubts.{comes, comes_from}
use Rattle.smi_commands.proofs.Numbers.{up_to}
use Rattle.smi_commands.proofs.unreached_states.comes.Goals as goal

pub returns : goal.returns
unfolding comes
returns c =
    any_from_yields_List
    (λ from. comes_from c.args.tree.now c.args.device from c.args.state)
    _ _ _ c.any.ensures.ran
    (up_to _ _ c.state_count.ensures.value)
    (λ x b q k. search (rules, tests))
