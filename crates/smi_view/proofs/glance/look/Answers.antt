use Rattle.smi_view.proofs.Naming.{reads}
use Rattle.smi_view.proofs.glance.look.Goals as goal

pub enter_as-requires : goal.enter_as-requires
enter_as-requires g c x = reads _ _ x
