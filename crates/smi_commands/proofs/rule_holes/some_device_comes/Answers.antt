use Rattle.std.proofs.Common.{rules, tests}
use Rattle.std.proofs.lemmas.Iterator.Search.{any_from_yields_List}
use Rattle.smi_commands.specs.Doubts.{device_comes, some_device_comes}
use Rattle.smi_commands.proofs.Numbers.{up_to}
use Rattle.smi_commands.proofs.rule_holes.some_device_comes.Goals as goal

pub returns : goal.returns
unfolding some_device_comes
returns c =
    any_from_yields_List
    (λ device. device_comes c.args.tree.now c.args.class device c.args.state)
    _ _ _ c.any.ensures.ran
    (up_to _ _ c.device_count.ensures.value)
    (λ x b q k. search (rules, tests))
