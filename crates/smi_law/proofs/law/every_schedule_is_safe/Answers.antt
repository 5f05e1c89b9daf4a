-- A schedule makes a run, and every run is safe.
use Rattle.smi_law.proofs.SafeRuns.{schedule_safe}
use Rattle.smi_law.proofs.law.every_schedule_is_safe.Goals as goal

pub returns : goal.returns
returns c = λ h items tree. schedule_safe h tree items
