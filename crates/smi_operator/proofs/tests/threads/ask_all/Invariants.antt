use Rattle.smi_operator.specs.Sides.{SameSeat}
use Rattle.smi_operator.proofs.tests.threads.ask_all.Given as goal

abbrev pub invariant-loop-nth : goal.invariant-loop-nth
invariant-loop-nth g l = SameSeat l.initial.seat l.seat
