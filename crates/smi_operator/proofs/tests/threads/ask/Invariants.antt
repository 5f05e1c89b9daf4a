use Rattle.smi_operator.specs.Sides.{SameSeat}
use Rattle.smi_operator.proofs.tests.threads.ask.Given as goal

abbrev pub invariant-loop : goal.invariant-loop
invariant-loop g l = SameSeat l.initial.seat l.seat
