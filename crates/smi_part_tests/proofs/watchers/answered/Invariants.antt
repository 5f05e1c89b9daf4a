use Rattle.std.proofs.Common.{◌≡◌, length}
use Rattle.smi_part_tests.proofs.watchers.answered.Given as goal

abbrev pub invariant-loop-call : goal.invariant-loop-call
invariant-loop-call l = length l.watchers.lists ≡ l.objects
