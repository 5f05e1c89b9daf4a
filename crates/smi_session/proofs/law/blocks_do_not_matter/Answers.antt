use Rattle.smi_session.proofs.Splitting.{blocks}
use Rattle.smi_session.proofs.law.blocks_do_not_matter.Goals as goal

pub returns : goal.returns
returns c = blocks
