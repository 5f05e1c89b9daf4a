use Rattle.std.proofs.Common.{◌≡◌}
use Rattle.smi_station_grants.specs.GrantTable.{grants_of}
use Rattle.smi_station_grants.specs.Restored.{with_links_to}
use Rattle.smi_station_grants.proofs.grant_table.GrantTable.restore_operator.Given as goal

-- the links to the first domains are restored
abbrev pub invariant-loop-place : goal.invariant-loop-place
invariant-loop-place l = record {
  grants : grants_of l.self ≡ with_links_to l.place (grants_of l.initial.self) l.operator l.row;
  tree : l.self.tree ≡ l.initial.self.tree;
  number : l.self.number ≡ l.initial.self.number;
}
