use Rattle.std.proofs.Common.{◌≡◌, ◌++◌, drop}
use Rattle.smi_command.proofs.pending.Pending.without_oldest.Given as goal

abbrev pub invariant-loop-i : goal.invariant-loop-i
invariant-loop-i l = l.left ++ drop l.i l.self ≡ drop l.gone l.self
