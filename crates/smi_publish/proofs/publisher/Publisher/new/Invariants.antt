use Rattle.smi_publish.proofs.FirstConditions.{Opened}
use Rattle.smi_publish.proofs.publisher.Publisher.new.Given as goal

abbrev pub invariant-loop-object : goal.invariant-loop-object
invariant-loop-object l = Opened l.tree l.station l.object l.conditions.items
