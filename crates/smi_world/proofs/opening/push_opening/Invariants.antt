use Rattle.std.proofs.Common.{◌≡◌, ◌+◌, ◌-◌, ◌++◌, map}
use Rattle.smi_protocol.specs.declared.item.Line.TheVariants as line
use Rattle.smi_protocol.specs.Schedule.{opening_lines}
use Rattle.smi_world.proofs.Opened.{opening_from}
use Rattle.smi_world.proofs.opening.push_opening.Given as goal

-- the lines so far, and those of the stations that are left, are all
abbrev pub invariant-loop-number : goal.invariant-loop-number
invariant-loop-number l = l.lines.items ++ map line.Entry (opening_from l.tree (l.number + 1) (l.count - l.number))
    ≡ l.fn.lines.items ++ opening_lines l.tree
