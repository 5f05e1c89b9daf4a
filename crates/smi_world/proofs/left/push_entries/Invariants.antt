use Rattle.std.proofs.Common.{◌≡◌, ◌++◌, drop, map}
use Rattle.smi_protocol.specs.declared.item.Line.TheVariants as line
use Rattle.smi_world.proofs.left.push_entries.Given as goal

-- the lines so far, and those that are left, are all
abbrev pub invariant-loop-entry : goal.invariant-loop-entry
invariant-loop-entry l = l.lines.items ++ map line.Entry (drop l.entry-index l.entries) ≡ l.fn.lines.items
    ++ map line.Entry l.entries
