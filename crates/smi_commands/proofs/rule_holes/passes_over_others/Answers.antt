use Rattle.std.proofs.Common.{rules, tests, ◌==◌, ◌&&◌, not}
use Rattle.std.proofs.lemmas.Iterator.Search.{any_from_yields_List}
use Rattle.smi_commands.specs.Doubts.{is_passed_over, passes_over_others}
use Rattle.smi_commands.proofs.Numbers.{up_to}
use Rattle.smi_commands.proofs.rule_holes.passes_over_others.Goals as goal

pub returns : goal.returns
unfolding passes_over_others
returns c =
    any_from_yields_List
    (λ other. not (other == c.args.state) && is_passed_over c.args.tree.now c.args.domain other)
    _ _ _ c.any.ensures.ran
    (up_to _ _ c.state_count.ensures.value)
    (λ x b q k. search (rules, tests))
