use Rattle.std.proofs.Common.{◌≡◌, take}
use Rattle.smi_station_grants.specs.GrantTable.{grants_of}
use Rattle.smi_station_grants.specs.Restored.{with_children}
use Rattle.smi_station_grants.proofs.grant_table.GrantTable.restore_children.Given as goal

-- the first children are restored
abbrev pub invariant-loop-child : goal.invariant-loop-child
invariant-loop-child l = record {
  grants : grants_of l.self ≡ with_children (grants_of l.initial.self) l.domain l.links
      (take l.child-index l.child-items);
  tree : l.self.tree ≡ l.initial.self.tree;
  number : l.self.number ≡ l.initial.self.number;
}
