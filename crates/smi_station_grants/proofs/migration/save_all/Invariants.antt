use Rattle.std.proofs.Common.{◌≡◌, ◌+◌, take}
use Rattle.smi_rows.specs.Store.{IsSame}
use Rattle.smi_station_grants.specs.Migrating.{over}
use Rattle.smi_station_grants.proofs.migration.save_all.Given as goal

-- the first rows are saved
abbrev pub invariant-loop-row : goal.invariant-loop-row
invariant-loop-row g l = record {
  honest : g.S.Stable.is_honest l.store → g.S.Stable.is_honest l.initial.store;
  rows : g.S.Stable.is_honest l.store → g.S.Stable.is_open l.initial.store
      → g.S.Stable.is_open l.store × IsSame (g.S.Stable.rows l.store)
      (over (g.S.Stable.rows l.initial.store) (take l.row-index l.rows));
  saves : g.S.Stable.saves l.store ≡ g.S.Stable.saves l.initial.store + l.row-index;
  failures : g.S.Stable.failures l.store ≡ g.S.Stable.failures l.initial.store;
  doubts : g.S.Stable.doubts l.store ≡ g.S.Stable.doubts l.initial.store;
}
