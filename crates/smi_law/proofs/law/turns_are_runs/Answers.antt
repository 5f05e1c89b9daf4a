-- What stations do is what may happen.
use Rattle.smi_law.proofs.Bridge.{turned}
use Rattle.smi_law.proofs.Speaking.{speaks}
use Rattle.smi_law.proofs.law.turns_are_runs.Goals as goal

pub returns-clause-may_send : goal.returns-clause-may_send
returns-clause-may_send c = λ h past w number what m tree run may a. speaks h tree past w run number what may m a

pub returns-clause-reached : goal.returns-clause-reached
returns-clause-reached c = λ h past w x tree run. turned h tree past w run x
