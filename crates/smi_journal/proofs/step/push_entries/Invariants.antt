use Rattle.std.proofs.Common.{◌≡◌, ◌++◌, drop}
use Rattle.smi_journal.specs.Text.{entries_text}
use Rattle.smi_journal.proofs.step.push_entries.Given as goal

-- the lines so far, and those that are left, are all
abbrev pub invariant-loop-entry : goal.invariant-loop-entry
invariant-loop-entry l = l.text.items
    ++ entries_text l.context.tree.now l.context.prefix.now (drop l.entry-index l.entries) ≡ l.fn.text.items
    ++ entries_text l.context.tree.now l.context.prefix.now l.entries
