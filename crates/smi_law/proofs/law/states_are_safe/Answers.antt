-- What is known of states in every run.
use Rattle.std.proofs.Common.{refl}
use Rattle.smi_law.proofs.StatesShown.{shows}
use Rattle.smi_law.proofs.law.states_are_safe.Goals as goal

pub returns-clause-shown : goal.returns-clause-shown
returns-clause-shown c = λ h past w tree run. (shows h tree past w run).well

pub returns-clause-echo : goal.returns-clause-echo
returns-clause-echo c = λ h past w m x v s tree run sent is.
    ((shows h tree past w run).states m x (w.stations m.to).grants.boot v s sent is).since refl
