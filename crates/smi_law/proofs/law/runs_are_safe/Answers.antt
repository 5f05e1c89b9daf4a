-- Runs are in order, and each is backed.
use Rattle.smi_law.proofs.Parents.{parents_are_lower}
use Rattle.smi_law.proofs.RunsOrdered.{runs_in_order}
use Rattle.smi_law.proofs.RunsSound.{sound_runs}
use Rattle.smi_law.proofs.law.runs_are_safe.Goals as goal

pub returns-clause-order : goal.returns-clause-order
returns-clause-order c = λ h past w run. runs_in_order h past w run

pub returns-clause-backed : goal.returns-clause-backed
returns-clause-backed c = λ h past w tree run. sound_runs h (parents_are_lower h tree) past w run
