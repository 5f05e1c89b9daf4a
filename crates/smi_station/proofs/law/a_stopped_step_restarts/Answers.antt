use Rattle.smi_station.proofs.Stored.{stop_restarts}
use Rattle.smi_station.proofs.law.a_stopped_step_restarts.Goals as goal

pub returns : goal.returns
returns c = stop_restarts
