use Rattle.std.proofs.Common.{◌∙◌, ℕ, ◌+◌, ap, sym, subst, drop, get_or}
use Rattle.std.specs.List.{flat_map}
use Rattle.smi_station_grants.specs.GrantTable.{grants_of}
use Rattle.smi_tree.specs.Lawful.{IsBetween}
use Rattle.smi_tree.specs.Lookups.{operator_count}
use Rattle.smi_protocol.specs.Ticking.{domains_of, owed_to_domain}
use Rattle.smi_station_display.specs.Displayed.{Displayed}
use Rattle.smi_station_display.proofs.Sweeps.{operator_at}
use Rattle.smi_station_display.specs.Sweeping.{Sweeping, offered, sweeping}
use Rattle.smi_station_display.proofs.Sweeps.{list_offered}
use Rattle.smi_station_display.proofs.displayed.Displayed.offer_orders.Goals as goal

pub loop-operator-preserved : goal.loop-operator-preserved
loop-operator-preserved c =
    let f = λ (o : ℕ). flat_map (owed_to_domain c.args.self.now.tree c.args.self.now.number
    (grants_of c.args.kept.now) o) (domains_of c.args.self.now.tree) in
    let xs = c.operators-operators.result.now in
    let i = c.loop-operator.operator-index in
    ap (λ (s : Sweeping). offered s (flat_map f (drop (i + 1) xs))) c.offer_links.ensures
    ∙ sym (list_offered (sweeping c.loop-operator.sweep c.loop-operator.out) f xs i 0 c.loop-operator-test.true)
    ∙ c.loop-operator.invariant

pub offer_links-requires-clause-operator : goal.offer_links-requires-clause-operator
offer_links-requires-clause-operator c =
    let xs = c.operators-operators.result.now in
    let i = c.loop-operator.operator-index in
    subst (λ (k : Displayed). IsBetween 1 (operator_count k.tree) (get_or xs i 0)) c.self.view_is
    (operator_at _ c.self.invariant.tree c.self.inside.number xs i 0 c.operators-operators.ensures
    c.loop-operator-test.true)
