use Rattle.std.proofs.Common.{◌≡◌, map}
use Rattle.std.specs.List.{flat_map}
use Rattle.smi_history.specs.Lines.{entry_line}
use Rattle.smi_history.proofs.history.History.write_lines.Given as goal

-- the lines so far are there
abbrev pub invariant-loop-entry : goal.invariant-loop-entry
invariant-loop-entry l = l.text.items ≡ flat_map entry_line (map (λ entry. entry.now) l.yielded)
