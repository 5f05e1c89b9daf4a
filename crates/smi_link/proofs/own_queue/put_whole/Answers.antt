use Rattle.std.proofs.Common.{ap, length, ◌∙◌}
use Rattle.smi_link.proofs.Whole.{whole}
use Rattle.smi_link.proofs.own_queue.put_whole.Goals as goal

pub returns : goal.returns
returns c = whole 44 _ _ c.args.datagram.now c.copy_from_slice.ensures.after
    (ap length c.copy_from_slice.ensures.after ∙ c.told-datagram)
