use Rattle.std.proofs.Common.{◌≡◌, ◌+◌, ◌++◌, ◌∷◌, [], List, sym, ap, ◌∙◌, arith}
use Rattle.std.specs.Prelude.{map}
use Rattle.std.specs.List.{range_with_len}
use Rattle.std.proofs.lemmas.List.FromFn.{map-range_with_len_more}
use Rattle.smi_command.specs.declared.Link.{Link}
use Rattle.smi_tree.specs.Lookups.{operator_count}
use Rattle.smi_station_grants.specs.Restored.{first_links}
use Rattle.smi_station_grants.proofs.restore.links_of_operators.Goals as goal

pub loop-place-preserved : goal.loop-place-preserved
loop-place-preserved c =
    let f = first_links c.args.tree.now c.args.number in
    let n = c.loop-place.place in
    let one : 1 + n ≡ n + 1 = omega arith in
    c.in_ok-push.ensures.items
    ∙ ap (λ (xs : List (List Link)). xs ++ c.in_ok-links.links ∷ []) c.loop-place.invariant
    ∙ ap (λ (x : List Link). map f (range_with_len 1 n) ++ x ∷ []) c.in_ok-links.ensures
    ∙ sym (map-range_with_len_more f 1 n (n + 1) one)

pub returns : goal.returns
returns c =
    let end : c.loop-place.place ≡ operator_count c.args.tree.now = omega
    (arith, c.operator_count-place-end.ensures.value, c.loop-place-test.false, c.loop-place.auto.place-end) in
    c.loop-place.invariant ∙ ap (λ n. map (first_links c.args.tree.now c.args.number) (range_with_len 1 n)) end
