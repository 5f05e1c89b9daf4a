use Rattle.std.proofs.Common.{refl}
use Rattle.smi_node.proofs.node.Node.serve_order.Goals as goal

pub returns-in-None-clause-obeys : goal.returns-in-None-clause-obeys
returns-in-None-clause-obeys g c =
    rw c.in-None.is (refl, c.tell_newest.new.desk, rw c.code.ensures at c.tell_newest.ensures, refl)
