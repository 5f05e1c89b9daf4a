-- One station sends what it may.
use Rattle.smi_protocol.specs.Refusals.{refusal_of}
use Rattle.smi_law.proofs.Speaking.{one_speaks}
use Rattle.smi_law.proofs.Tidy.{after_tidy, first_tidy}
use Rattle.smi_law.proofs.law.what_is_sent_may_be_sent.Goals as goal

pub returns-clause-starts : goal.returns-clause-starts
returns-clause-starts c = first_tidy

pub returns-clause-stays : goal.returns-clause-stays
returns-clause-stays c = λ h number s what. after_tidy h number s what (refusal_of h number s.grants what)

pub returns-clause-may_send : goal.returns-clause-may_send
returns-clause-may_send c = λ h number s what m tree tidy a. one_speaks h tree number s tidy what m a
