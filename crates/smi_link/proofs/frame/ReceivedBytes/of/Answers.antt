use Rattle.smi_link.proofs.Cut.{cut}
use Rattle.smi_link.proofs.frame.ReceivedBytes.of.Goals as goal

pub returns : goal.returns
returns c = cut _ _ c.args.datagram.now 45 c.min-count.result c.copy_from_slice.ensures.after c.min-count.ensures
