use Rattle.smi_node.specs.Told.{IsNotBefore}
use Rattle.smi_node.proofs.answers.find_order.Given as goal

-- no seat so far has an order that the answer is of
abbrev pub invariant-loop-seat : goal.invariant-loop-seat
invariant-loop-seat l =
    IsNotBefore (record { operators = l.operators; answer = l.answer; desk = l.desk }) l.seat
