use Rattle.smi_session.proofs.Rising.{records_rise}
use Rattle.smi_session.proofs.law.recorded_states_rise.Goals as goal

pub returns : goal.returns
returns c = records_rise
