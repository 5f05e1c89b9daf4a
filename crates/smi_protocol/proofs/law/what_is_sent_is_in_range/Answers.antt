use Rattle.smi_protocol.proofs.SendsInRange.{sends_in}
use Rattle.smi_protocol.proofs.ShowsInRange.{all_sends_in}
use Rattle.smi_protocol.proofs.law.what_is_sent_is_in_range.Goals as goal

pub returns-clause-of_grants : goal.returns-clause-of_grants
returns-clause-of_grants c = λ h number g what tree here. sends_in h tree number here g what

pub returns-clause-whole : goal.returns-clause-whole
returns-clause-whole c = λ h number s what tree here. all_sends_in h tree number here s what
