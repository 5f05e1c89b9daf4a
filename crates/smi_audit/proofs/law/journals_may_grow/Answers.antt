use Rattle.smi_audit.proofs.Pushing.{further_pushed}
use Rattle.smi_audit.proofs.law.journals_may_grow.Goals as goal

pub returns : goal.returns
returns c = λ base from a left i x f. further_pushed base from a left i x f
