use Rattle.std.proofs.Common.{◌≡◌, ◌++◌, drop, map}
use Rattle.smi_protocol.specs.declared.entry.Entry.TheVariants as entry
use Rattle.smi_journal.specs.Text.{entries_text}
use Rattle.smi_journal.proofs.step.push_passed.Given as goal

-- the lines so far, and those that are left, are all
abbrev pub invariant-loop-shown : goal.invariant-loop-shown
invariant-loop-shown l = l.text.items
    ++ entries_text l.context.tree.now l.context.prefix.now (map entry.Passed (drop l.shown-index l.passed))
    ≡ l.fn.text.items ++ entries_text l.context.tree.now l.context.prefix.now (map entry.Passed l.passed)
