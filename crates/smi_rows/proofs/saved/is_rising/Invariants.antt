use Rattle.std.proofs.Common.{◌≡◌, drop}
use Rattle.smi_rows.specs.Listed.{rises_from}
use Rattle.smi_rows.specs.Store.{rises}
use Rattle.smi_rows.proofs.saved.is_rising.Given as goal

-- the keys rise where those that are left do, from the last one on
abbrev pub invariant-loop-row : goal.invariant-loop-row
invariant-loop-row l = rises_from l.last (drop l.row-index l.list) ≡ rises l.list
