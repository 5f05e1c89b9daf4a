use Rattle.std.proofs.Common.{◌≡◌, map, take}
use Rattle.smi_station_grants.specs.GrantTable.{grants_of}
use Rattle.smi_station_grants.specs.Children.{commanded_among}
use Rattle.smi_station_grants.specs.declared.commanded.CommandedChild.{CommandedChild}
use Rattle.smi_station_grants.proofs.grant_table.GrantTable.command_children.Given as goal

-- the command has reached the first children
abbrev pub invariant-loop-one : goal.invariant-loop-one
invariant-loop-one l = record {
  grants : grants_of l.self ≡ commanded_among l.initial.self.tree (grants_of l.initial.self) l.domain l.command
      (take l.one-index (map (λ (x : CommandedChild). x.child) l.one-items));
  tree : l.self.tree ≡ l.initial.self.tree;
  number : l.self.number ≡ l.initial.self.number;
}
