use Rattle.std.proofs.Common.{◌≡◌, length}
use Rattle.smi_history.specs.History.{forgotten}
use Rattle.smi_history.proofs.history.History.forget_before.Given as goal

-- what is still to be dropped is what was at the start
abbrev pub invariant-loop-self : goal.invariant-loop-self
invariant-loop-self l = forgotten l.self l.time ≡ forgotten l.initial.self l.time

abbrev pub decreases-loop-self : goal.decreases-loop-self
decreases-loop-self l = length l.self.entries
