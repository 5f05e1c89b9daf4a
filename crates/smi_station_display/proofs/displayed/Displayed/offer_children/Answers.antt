use Rattle.std.proofs.Common.{◌∙◌, ℕ, ◌+◌, ◌-◌, ap, sym}
use Rattle.std.specs.List.{flat_map, range_with_len}
use Rattle.smi_station_grants.specs.GrantTable.{grants_of}
use Rattle.smi_tree.specs.Lookups.{parent_of}
use Rattle.smi_protocol.specs.Ticking.{owed_to_child}
use Rattle.smi_station_display.specs.Sweeping.{Sweeping, offered, sweeping}
use Rattle.smi_station_display.proofs.Sweeps.{range_offered}
use Rattle.smi_station_display.proofs.displayed.Displayed.offer_children.Goals as goal

pub loop-place-preserved : goal.loop-place-preserved
loop-place-preserved c =
    let f = λ (x : ℕ). owed_to_child c.args.self.now.tree c.args.self.now.number (grants_of c.args.kept.now) x
    (parent_of c.args.self.now.tree x) in
    let n = c.domain_count-place-end.result in
    let i = c.loop-place.place in
    ap (λ (s : Sweeping). offered s (flat_map f (range_with_len (i + 1 + 1) (n - (i + 1))))) c.offer_child.ensures
    ∙ sym (range_offered (sweeping c.loop-place.sweep c.loop-place.out) f n i c.loop-place-test.true)
    ∙ c.loop-place.invariant
