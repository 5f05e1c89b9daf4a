use Rattle.std.proofs.Common.{◌≡◌}
use Rattle.smi_operator.specs.Sides.{SameDesk, seat_count}
use Rattle.smi_operator.proofs.tests.threads.serve.Given as goal

abbrev pub invariant-loop : goal.invariant-loop
invariant-loop g l = SameDesk l.initial.desk l.desk × (seat_count l.desk ≡ 2)
