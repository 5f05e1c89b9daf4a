use Rattle.std.proofs.Common.{◌≡◌, drop}
use Rattle.smi_station_grants.specs.GrantTable.{grants_of}
use Rattle.smi_station_grants.specs.Restoring.{restored}
use Rattle.smi_station_grants.proofs.load.restore_all.Given as goal

-- what is restored and what is left make the whole
abbrev pub invariant-loop-row : goal.invariant-loop-row
invariant-loop-row l = record {
  all : restored l.initial.kept.tree l.initial.kept.number (grants_of l.kept) (drop l.row-index l.rows)
      ≡ restored l.initial.kept.tree l.initial.kept.number (grants_of l.initial.kept) l.rows;
  tree : l.kept.tree ≡ l.initial.kept.tree;
  number : l.kept.number ≡ l.initial.kept.number;
}
