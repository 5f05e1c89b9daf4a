use Rattle.smi_protocol.proofs.DisplayStays.{display_stays}
use Rattle.smi_protocol.proofs.SoundDisplay.{first_sound}
use Rattle.smi_protocol.proofs.law.displays_stay_sound.Goals as goal

pub returns-clause-opens : goal.returns-clause-opens
returns-clause-opens c = λ h number tree. first_sound h tree number

pub returns-clause-stays : goal.returns-clause-stays
returns-clause-stays c = display_stays
