use Rattle.std.proofs.Common.{◌≡◌, drop}
use Rattle.std.specs.List.{flat_map}
use Rattle.smi_station_grants.specs.GrantTable.{grants_of}
use Rattle.smi_protocol.specs.Ticking.{domains_of, owed_to_domain}
use Rattle.smi_station_display.specs.Sweeping.{offered, sweeping}
use Rattle.smi_station_display.proofs.displayed.Displayed.offer_orders.Given as goal

-- what is due so far was offered
abbrev pub invariant-loop-operator : goal.invariant-loop-operator
invariant-loop-operator l =
    offered (sweeping l.sweep l.out) (flat_map
    (λ o. flat_map (owed_to_domain l.self.tree l.self.number (grants_of l.kept) o) (domains_of l.self.tree))
    (drop l.operator-index l.operators))
    ≡ offered (sweeping l.initial.sweep l.initial.out)
    (flat_map (λ o. flat_map (owed_to_domain l.self.tree l.self.number (grants_of l.kept) o)
    (domains_of l.self.tree)) l.operators)
