use Rattle.std.proofs.Common.{◌≡◌, ◌+◌, ◌++◌, ◌≤◌, length}
use Rattle.std.specs.Str.Lines.{lines}
use Rattle.smi_schedule.specs.Schedule.{items_before_fault, first_fault}
use Rattle.smi_schedule.proofs.schedule.read_lines.Given as goal

-- the items so far and those of the lines left are the items of all, and the first fault is among the lines left
abbrev pub invariant-loop-cut : goal.invariant-loop-cut
invariant-loop-cut l = record {
  items : l.items.items ++ items_before_fault l.tree (lines l.rest) ≡ items_before_fault l.tree (lines l.bytes);
  fault : first_fault (l.number + 1) l.tree (lines l.rest) ≡ first_fault 1 l.tree (lines l.bytes);
  counted : l.number + length l.rest ≤ length l.bytes;
}

abbrev pub decreases-loop-cut : goal.decreases-loop-cut
decreases-loop-cut l = length l.rest
