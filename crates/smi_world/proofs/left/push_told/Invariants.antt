use Rattle.std.proofs.Common.{◌≡◌, ◌++◌, drop, map}
use Rattle.smi_protocol.specs.declared.item.Line.TheVariants as line
use Rattle.smi_protocol.specs.Happening.{told_entries}
use Rattle.smi_world.proofs.left.push_told.Given as goal

-- the lines so far, and those that are left, are all
abbrev pub invariant-loop-answer : goal.invariant-loop-answer
invariant-loop-answer l = l.lines.items ++ map line.Entry (told_entries (drop l.answer-index l.answers))
    ≡ l.fn.lines.items ++ map line.Entry (told_entries l.answers)
