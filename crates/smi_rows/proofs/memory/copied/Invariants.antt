use Rattle.std.proofs.Common.{◌≡◌, ◌++◌, drop}
use Rattle.smi_rows.proofs.memory.copied.Given as goal

-- what is copied and what is left is all
abbrev pub invariant-loop-row : goal.invariant-loop-row
invariant-loop-row l = l.list.items ++ drop l.row-index l.rows.items ≡ l.rows.items
