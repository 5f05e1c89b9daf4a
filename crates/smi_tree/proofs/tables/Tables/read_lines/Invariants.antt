use Rattle.std.proofs.Common.{◌≡◌, ◌+◌, ◌≤◌, length}
use Rattle.std.specs.Str.Lines.{lines}
use Rattle.smi_tree.specs.File.{with_lines}
use Rattle.smi_tree.proofs.tables.Tables.read_lines.Given as goal

-- what the lines left make of the tables is what all make
abbrev pub invariant-loop-cut : goal.invariant-loop-cut
invariant-loop-cut l = record {
  same : with_lines (l.number + 1) l.self (lines l.rest) ≡ with_lines 1 l.fn.self (lines l.bytes);
  counted : l.number + length l.rest ≤ length l.bytes;
}

abbrev pub decreases-loop-cut : goal.decreases-loop-cut
decreases-loop-cut l = length l.rest
