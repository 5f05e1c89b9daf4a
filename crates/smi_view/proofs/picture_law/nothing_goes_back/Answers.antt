use Rattle.smi_view.proofs.Keeping.{keeps_up}
use Rattle.smi_view.proofs.picture_law.nothing_goes_back.Goals as goal

pub returns : goal.returns
returns c = keeps_up
