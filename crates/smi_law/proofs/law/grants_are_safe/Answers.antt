-- Every run is safe step by step.
use Rattle.smi_law.proofs.GrantsSafe.{safe_grants}
use Rattle.smi_law.proofs.law.grants_are_safe.Goals as goal

pub returns : goal.returns
returns c = λ h past w run. safe_grants h past w run
