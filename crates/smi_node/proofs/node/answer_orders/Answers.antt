use Rattle.smi_node.proofs.node.answer_orders.Goals as goal

pub returns-in-None : goal.returns-in-None
returns-in-None c = rw c.in-None.is (c.tell_all.new.desk, c.tell_all.ensures, c.end_replaced.ensures)
