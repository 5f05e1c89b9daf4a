use Rattle.std.proofs.Common.{rules, tests, ◌==◌, ◌&&◌, ◌||◌}
use Rattle.std.proofs.lemmas.Iterator.Search.{any_from_yields_List}
use Rattle.smi_tree.specs.Lookups.{is_below}
use Rattle.smi_commands.specs.Doubts.{class_of, lies_under}
use Rattle.smi_commands.proofs.Numbers.{up_to}
use Rattle.smi_commands.proofs.idle_actions.lies_under.Goals as goal

pub returns : goal.returns
unfolding lies_under
returns c =
    any_from_yields_List
    (λ above. class_of c.args.tree.now above == c.args.class
    && (above == c.args.domain || is_below c.args.tree.now c.args.domain above))
    _ _ _ c.any.ensures.ran
    (up_to _ _ c.domain_count.ensures.value)
    (λ x b q k. search (rules, tests))
