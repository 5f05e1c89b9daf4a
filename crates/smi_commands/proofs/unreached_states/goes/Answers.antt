use Rattle.std.proofs.Common.{rules, tests}
use Rattle.std.proofs.lemmas.Iterator.Search.{any_from_yields_List}
use Rattle.smi_commands.specs.Doubts.{goes, goes_with}
use Rattle.smi_commands.proofs.Numbers.{up_to}
use Rattle.smi_commands.proofs.unreached_states.goes.Goals as goal

pub returns : goal.returns
unfolding goes
returns c =
    any_from_yields_List
    (λ first. goes_with c.args.tree.now c.args.domain first c.args.state)
    _ _ _ c.any.ensures.ran
    (up_to _ _ c.state_count.ensures.value)
    (λ x b q k. search (rules, tests))
