use Rattle.std.proofs.Common.{rules, tests, ◌==◌, ◌&&◌}
use Rattle.std.proofs.lemmas.Iterator.Search.{any_from_yields_List}
use Rattle.smi_commands.specs.Doubts.{class_of, has_shared, is_shared}
use Rattle.smi_commands.proofs.Numbers.{up_to}
use Rattle.smi_commands.proofs.rule_holes.has_shared.Goals as goal

pub returns : goal.returns
unfolding has_shared
returns c =
    any_from_yields_List
    (λ domain. class_of c.args.tree.now domain == c.args.class && is_shared c.args.tree.now domain)
    _ _ _ c.any.ensures.ran
    (up_to _ _ c.domain_count.ensures.value)
    (λ x b q k. search (rules, tests))
