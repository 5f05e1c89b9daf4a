use Rattle.std.proofs.Common.{◌≡◌, Some, length, map, take}
use Rattle.smi_console.specs.Peers.{address_in}
use Rattle.smi_console.proofs.peers.addresses.Given as goal

-- those of the stations before
abbrev pub invariant-loop-before : goal.invariant-loop-before
invariant-loop-before l = record {
  each : map address_in l.peers.items ≡ map Some (take l.before l.tree.addresses);
  count : length l.peers.items ≡ l.before;
}
