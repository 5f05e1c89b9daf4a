-- What a step does to one record and to one link.
use Rattle.std.proofs.Common.{ℕ, ◌≡◌, Bool, List}
use Rattle.std.specs.Prelude.{Ok}
use Rattle.smi_grant.specs.declared.Command.{Command}
use Rattle.smi_grant.specs.declared.Holder.{Holder}
use Rattle.smi_grant.specs.Record.{Standing}
use Rattle.smi_message.specs.declared.Body.TheVariants as body
use Rattle.smi_message.specs.Message.{Message}
use Rattle.smi_command.specs.declared.Link.{Link}
use Rattle.smi_command.specs.declared.Due.{Due}
use Rattle.smi_command.specs.Hearing.{told_link}
use Rattle.smi_command.specs.OneLink.{asked_record, settled_record}
use Rattle.smi_command.specs.Order.{take_begun, drop_begun, command_issued}
pub use Rattle.smi_protocol.proofs.Tables.{apart, choice, number_self, at_put, at_put_link, put_link_here}
use Rattle.smi_protocol.specs.Messages.{request}
use Rattle.smi_law.specs.World.{Among}

-- a record rests, is asked by a datagram that was sent, or its command ends
pub data RecordMove (sent : List Message) (d : ℕ) (r : Standing) : Standing → Type 0 where
  rests : RecordMove sent d r r
  asked : (m : Message) (who : Holder) (due : Due) → Among m sent → m.body ≡ request d who due
      → (busy : Bool) (x : ℕ) → RecordMove sent d r (asked_record r who due busy x)
  ends : (x : ℕ) → RecordMove sent d r (settled_record r x)

-- a link rests, obeys an order, or is told a record by a datagram that was sent
pub data LinkMove (sent : List Message) (d : ℕ) (me : Holder) (l : Link) : Link → Type 0 where
  stays : LinkMove sent d me l l
  takes : (new : Link) → take_begun l ≡ Ok new → LinkMove sent d me l new
  drops : (new : Link) → drop_begun l ≡ Ok new → LinkMove sent d me l new
  commands : (c : Command) (new : Link) → command_issued l c ≡ Ok new → LinkMove sent d me l new
  hears : (m : Message) (r : Standing) → Among m sent → m.body ≡ body.Tell d r → LinkMove sent d me l (told_link l me r)
