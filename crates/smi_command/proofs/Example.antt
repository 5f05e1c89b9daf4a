-- A take, a command that stays at work, and a drop, as a list of events: each of them happens.
use Rattle.std.proofs.Common.{◌≡◌, true, false, List, [], ◌∷◌, ◌++◌, refl}
use Rattle.smi_grant.specs.declared.command.Command.TheVariants.{Do}
use Rattle.smi_grant.specs.declared.holder.Holder.{Holder}
use Rattle.smi_grant.specs.declared.holder.Holder.TheVariants.{Free, Operator}
use Rattle.smi_grant.specs.declared.record.Phase.TheVariants.{Settled}
use Rattle.smi_grant.specs.Record.{standing}
use Rattle.smi_command.specs.declared.link.Link.TheVariants.{Out, Held}
use Rattle.smi_command.specs.OneLink.{Event, OrderTake, OrderCommand, OrderDrop, SendDue, Deliver, Settle, Ask, job}
use Rattle.smi_command.specs.OneLink.{reached}

abbrev bob : Holder
bob = Operator 2

-- what is due is sent, reaches the keeper, and its answer reaches the holder. The newest first
abbrev asked_and_told : List Event
asked_and_told = Deliver 0 true 0 ∷ Deliver 0 true 0 ∷ SendDue 0 ∷ []

abbrev held : List Event
held = asked_and_told ++ OrderTake ∷ []

abbrev at_work : List Event
at_work = asked_and_told ++ OrderCommand (Do 1) ∷ held

abbrev dropped : List Event
dropped = asked_and_told ++ OrderDrop ∷ Deliver 0 false 0 ∷ Ask ∷ Settle 1 ∷ at_work

held_link : (reached bob held).link ≡ Held 1 0 []
held_link = refl

still_pending : (reached bob at_work).link ≡ Held 1 1 (Do 1 ∷ [])
still_pending = refl

out_again : (reached bob dropped).link ≡ Out 2
out_again = refl

free_again : (reached bob dropped).kept ≡ standing 2 Free 0 Settled 0
free_again = refl

ran_once : (reached bob dropped).ran ≡ job bob 1 1 (Do 1) ∷ []
ran_once = refl
