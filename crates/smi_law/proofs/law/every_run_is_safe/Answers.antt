-- Grants, runs and states, put together.
use Rattle.smi_law.proofs.SafeRuns.{run_safe}
use Rattle.smi_law.proofs.law.every_run_is_safe.Goals as goal

pub returns : goal.returns
returns c = λ h past w tree run. run_safe h tree past w run
