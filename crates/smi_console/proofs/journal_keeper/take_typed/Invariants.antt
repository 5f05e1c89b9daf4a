use Rattle.std.proofs.Common.{◌≡◌}
use Rattle.smi_console.proofs.journal_keeper.take_typed.Given as goal

-- a line that is noted changes nothing of what the journal did
abbrev pub invariant-loop : goal.invariant-loop
invariant-loop g l = l.journal ≡ l.initial.journal
