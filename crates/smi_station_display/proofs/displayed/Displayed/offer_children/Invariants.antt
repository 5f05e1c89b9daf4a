use Rattle.std.proofs.Common.{◌≡◌, ◌+◌, ◌-◌}
use Rattle.std.specs.List.{flat_map, range_with_len}
use Rattle.smi_station_grants.specs.GrantTable.{grants_of}
use Rattle.smi_tree.specs.Lookups.{parent_of}
use Rattle.smi_protocol.specs.Ticking.{owed_to_child}
use Rattle.smi_station_display.specs.Sweeping.{offered, sweeping}
use Rattle.smi_station_display.proofs.displayed.Displayed.offer_children.Given as goal

-- what is due so far was offered
abbrev pub invariant-loop-place : goal.invariant-loop-place
invariant-loop-place l =
    offered (sweeping l.sweep l.out) (flat_map
    (λ x. owed_to_child l.self.tree l.self.number (grants_of l.kept) x (parent_of l.self.tree x))
    (range_with_len (l.place + 1) (l.place-end - l.place)))
    ≡ offered (sweeping l.initial.sweep l.initial.out)
    (flat_map (λ x. owed_to_child l.self.tree l.self.number (grants_of l.kept) x (parent_of l.self.tree x))
    (range_with_len 1 l.place-end))
