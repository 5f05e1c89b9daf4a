use Rattle.std.proofs.Common.{◌≡◌, ◌++◌, drop, map}
use Rattle.smi_protocol.specs.declared.item.Line.TheVariants as line
use Rattle.smi_protocol.specs.declared.entry.Entry.TheVariants as entry
use Rattle.smi_world.proofs.left.push_passed.Given as goal

-- the lines so far, and those that are left, are all
abbrev pub invariant-loop-shown : goal.invariant-loop-shown
invariant-loop-shown l = l.lines.items ++ map line.Entry (map entry.Passed (drop l.shown-index l.passed))
    ≡ l.fn.lines.items ++ map line.Entry (map entry.Passed l.passed)
