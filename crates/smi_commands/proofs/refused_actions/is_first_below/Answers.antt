use Rattle.std.proofs.Common.{rules, tests, arith, refl, ap, ◌==◌, ◌&&◌, not, ◌∙◌, ℕ}
use Rattle.std.specs.List.{list_any, range_with_len}
use Rattle.std.proofs.lemmas.Iterator.{YieldsList-from_range}
use Rattle.std.proofs.lemmas.Iterator.Search.{any_from_yields_List}
use Rattle.smi_commands.specs.Doubts.{class_above, class_of, is_first_below}
use Rattle.smi_commands.proofs.refused_actions.is_first_below.Goals as goal

pub returns : goal.returns
unfolding is_first_below
returns c =
    let of = class_of c.args.tree.now in
    let over = class_above c.args.tree.now in
    ap not (any_from_yields_List
    (λ other. of other == c.class_of-class.result && over other == c.class_above-above.result) _ _ _ c.any.ensures.ran
    (YieldsList-from_range 0 c.args.domain c.args.domain refl (omega arith)) (λ x b q k. search (rules, tests)))
    ∙ ap (λ (class : ℕ). not (list_any (λ other. of other == class && over other == c.class_above-above.result)
    (range_with_len 0 c.args.domain))) c.class_of-class.ensures
    ∙ ap (λ (above : ℕ). not (list_any (λ other. of other == of c.args.domain && over other == above)
    (range_with_len 0 c.args.domain))) c.class_above-above.ensures
