-- The bytes of a datagram are read as that datagram.
use Rattle.std.proofs.Common.{ap}
use Rattle.smi_message.proofs.Laws.{spelled_is_read}
use Rattle.smi_protocol.specs.Step.{after_reading}
use Rattle.smi_protocol.proofs.law.datagrams_are_heard.Goals as goal

pub returns : goal.returns
returns c = λ h number s m lawful. ap (after_reading h number s) (spelled_is_read m lawful)
