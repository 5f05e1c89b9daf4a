-- A datagram of the world is one that can be spelled.
use Rattle.std.proofs.Common.{◌≡◌, true}
use Rattle.std.proofs.lemmas.Bool.{and_from}
use Rattle.smi_message.specs.Message.{IsMessage, Message, is_message}
use Rattle.smi_protocol.proofs.Ranges.{between}

-- a datagram is a message
pub message_is : (m : Message) → IsMessage m → is_message m ≡ true
message_is m i =
    and_from _ _
    (and_from _ _ (between 1 128 m.from i.from.0 i.from.1)
    (and_from _ _ (between 1 128 m.to i.to.0 i.to.1) (between 1 65535 m.tree i.tree.0 i.tree.1)))
    i.body
