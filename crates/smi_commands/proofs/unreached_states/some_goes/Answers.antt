use Rattle.std.proofs.Common.{rules, tests}
use Rattle.std.proofs.lemmas.Iterator.Search.{any_from_yields_List}
use Rattle.smi_commands.specs.Doubts.{goes, some_goes}
use Rattle.smi_commands.proofs.Numbers.{up_to}
use Rattle.smi_commands.proofs.unreached_states.some_goes.Goals as goal

pub returns : goal.returns
unfolding some_goes
returns c =
    any_from_yields_List
    (λ domain. goes c.args.tree.now domain c.args.state)
    _ _ _ c.any.ensures.ran
    (up_to _ _ c.domain_count.ensures.value)
    (λ x b q k. search (rules, tests))
