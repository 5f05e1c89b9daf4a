use Rattle.std.proofs.Common.{rules, tests, ◌&&◌}
use Rattle.std.proofs.lemmas.Iterator.Search.{any_from_yields_List}
use Rattle.smi_commands.specs.Doubts.{home_of, lies_under, stirs, stirs_below}
use Rattle.smi_commands.proofs.Numbers.{up_to}
use Rattle.smi_commands.proofs.idle_actions.stirs_below.Goals as goal

pub returns : goal.returns
unfolding stirs_below
returns c =
    any_from_yields_List
    (λ device. stirs c.args.tree.now device c.args.action
    && lies_under c.args.tree.now c.args.class (home_of c.args.tree.now device))
    _ _ _ c.any.ensures.ran
    (up_to _ _ c.device_count.ensures.value)
    (λ x b q k. search (rules, tests))
