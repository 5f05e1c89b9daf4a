use Rattle.std.proofs.Common.{rules, tests, arith, refl, ap, ◌==◌, not, ◌∙◌, ℕ}
use Rattle.std.specs.List.{list_any, range_with_len}
use Rattle.std.proofs.lemmas.Iterator.{YieldsList-from_range}
use Rattle.std.proofs.lemmas.Iterator.Search.{any_from_yields_List}
use Rattle.smi_commands.specs.Doubts.{is_first_of_kind, kind_of}
use Rattle.smi_commands.proofs.obedient_devices.is_first_of_kind.Goals as goal

pub returns : goal.returns
unfolding is_first_of_kind
returns c =
    let of = kind_of c.args.tree.now in
    ap not (any_from_yields_List (λ other. of other == c.kind_of-kind.result) _ _ _ c.any.ensures.ran
    (YieldsList-from_range 0 c.args.device c.args.device refl (omega arith)) (λ x b q k. search (rules, tests)))
    ∙ ap (λ (kind : ℕ). not (list_any (λ other. of other == kind) (range_with_len 0 c.args.device)))
    c.kind_of-kind.ensures
