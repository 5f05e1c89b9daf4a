use Rattle.std.proofs.Common.{◌≡◌, length}
use Rattle.smi_part_tests.proofs.watchers.random.compared.Given as goal

abbrev pub invariant-loop : goal.invariant-loop
invariant-loop l = length l.watchers.lists ≡ 640
