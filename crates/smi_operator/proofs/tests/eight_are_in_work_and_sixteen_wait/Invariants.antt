use Rattle.std.proofs.Common.{◌≡◌}
use Rattle.smi_operator.specs.Sides.{seat_count}
use Rattle.smi_operator.proofs.tests.eight_are_in_work_and_sixteen_wait.Given as goal

abbrev pub invariant-loop-action : goal.invariant-loop-action
invariant-loop-action g l = seat_count l.desk ≡ 1

abbrev pub invariant-loop-given : goal.invariant-loop-given
invariant-loop-given g l = seat_count l.desk ≡ 1
