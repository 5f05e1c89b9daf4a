use Rattle.smi_protocol.proofs.SoundSteps.{stays_sound}
use Rattle.smi_protocol.proofs.SoundOpening.{opens_sound}
use Rattle.smi_protocol.proofs.law.grants_stay_sound.Goals as goal

pub returns-clause-opens : goal.returns-clause-opens
returns-clause-opens c = opens_sound

pub returns-clause-stays : goal.returns-clause-stays
returns-clause-stays c = stays_sound
