use Rattle.smi_publish.proofs.Acting.{SoFar}
use Rattle.smi_publish.proofs.publisher.Publisher.run_action.Given as goal

abbrev pub invariant-loop-device : goal.invariant-loop-device
invariant-loop-device l = SoFar l.tree l.initial.self l.self l.domain l.action l.device-index l.changes
