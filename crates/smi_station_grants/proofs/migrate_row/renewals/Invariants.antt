use Rattle.std.proofs.Common.{◌≡◌, ◌++◌, drop}
use Rattle.smi_station_grants.specs.Migrating as spec
use Rattle.smi_station_grants.proofs.migrate_row.renewals.Given as goal

-- what was told and renewed and what is left make the whole
abbrev pub invariant-loop-row : goal.invariant-loop-row
invariant-loop-row l = record {
  told : spec.all_told l.tree l.number (drop l.row-index l.rows) ≡ spec.all_told l.tree l.number l.rows;
  all : l.list.items ++ spec.renewals l.tree l.number (drop l.row-index l.rows) ≡ spec.renewals l.tree l.number l.rows;
}
