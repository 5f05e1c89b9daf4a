use Rattle.std.proofs.Common.{◌≡◌, ◌+◌, drop}
use Rattle.smi_rows.specs.Listed.{place_of}
use Rattle.smi_rows.proofs.memory.place_of.Given as goal

-- all so far are before the key
abbrev pub invariant-loop-row : goal.invariant-loop-row
invariant-loop-row l = record {
  place : l.place ≡ l.row-index;
  same : l.place + place_of l.key (drop l.row-index l.rows) ≡ place_of l.key l.rows;
}
