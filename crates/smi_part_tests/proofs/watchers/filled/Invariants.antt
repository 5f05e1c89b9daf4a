use Rattle.std.proofs.Common.{◌≡◌, length}
use Rattle.smi_part_tests.proofs.watchers.filled.Given as goal

abbrev pub invariant-loop-object : goal.invariant-loop-object
invariant-loop-object l = length l.watchers.lists ≡ l.objects

abbrev pub invariant-loop-station : goal.invariant-loop-station
invariant-loop-station l = length l.watchers.lists ≡ l.objects
