use Rattle.std.proofs.Common.{◌≡◌, ◌++◌, map}
use Rattle.std.specs.List.{flat_map}
use Rattle.smi_history.specs.Query.{asked_line}
use Rattle.smi_history.proofs.history.History.put_entries.Given as goal

-- the lines so far are there
abbrev pub invariant-loop-entry : goal.invariant-loop-entry
invariant-loop-entry l =
    l.text.items ≡ l.initial.text.items ++ flat_map (asked_line l.query) (map (λ entry. entry.now) l.yielded)
