use Rattle.std.proofs.Common.{rules, tests}
use Rattle.std.proofs.lemmas.Iterator.Search.{any_from_yields_List}
use Rattle.smi_commands.specs.Doubts.{moves_from_first, moves_unreported}
use Rattle.smi_commands.proofs.Numbers.{up_to}
use Rattle.smi_commands.proofs.obedient_devices.moves_unreported.Goals as goal

pub returns : goal.returns
unfolding moves_unreported
returns c =
    any_from_yields_List
    (λ first. moves_from_first c.args.tree.now c.args.device c.args.action first)
    _ _ _ c.any.ensures.ran
    (up_to _ _ c.state_count.ensures.value)
    (λ x b q k. search (rules, tests))
