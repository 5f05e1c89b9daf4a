use Rattle.std.proofs.Common.{◌≡◌, ◌++◌, drop}
use Rattle.smi_protocol.specs.Happening.{told_entries}
use Rattle.smi_journal.specs.Text.{entries_text}
use Rattle.smi_journal.proofs.step.push_told.Given as goal

-- the lines so far, and those that are left, are all
abbrev pub invariant-loop-answer : goal.invariant-loop-answer
invariant-loop-answer l = l.text.items
    ++ entries_text l.context.tree.now l.context.prefix.now (told_entries (drop l.answer-index l.answers))
    ≡ l.fn.text.items ++ entries_text l.context.tree.now l.context.prefix.now (told_entries l.answers)
