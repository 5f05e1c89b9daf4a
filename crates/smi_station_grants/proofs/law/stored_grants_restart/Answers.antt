use Rattle.smi_station_grants.proofs.Restarting.{only_restarts, restarts_stored, spent_stored}
use Rattle.smi_station_grants.proofs.law.stored_grants_restart.Goals as goal

pub returns-clause-restarts : goal.returns-clause-restarts
returns-clause-restarts c = restarts_stored

pub returns-clause-spent : goal.returns-clause-spent
returns-clause-spent c = spent_stored

pub returns-clause-only : goal.returns-clause-only
returns-clause-only c = only_restarts
