use Rattle.std.proofs.Common.{◌≡◌, None, sym, subst}
use Rattle.smi_message.specs.Message.{Message}
use Rattle.smi_protocol.specs.Refusals.{refusal_of_message}
use Rattle.smi_station.proofs.Accepted.{state_there}
use Rattle.smi_station.proofs.display_update.update_display.Goals as goal

pub state_comes-requires-clause-object_most : goal.state_comes-requires-clause-object_most
state_comes-requires-clause-object_most c =
    let d = c.args.display.now in
    (state_there d.tree c.tree-tree.ensures.displayed.tree d.number _ c.datagram.invariant.body
    (subst (λ (m : Message). refusal_of_message d.tree d.number m ≡ None) (sym c.datagram.view_is)
    c.requires.accepted)
    c.in-State.object c.in-State.echo c.in-State.version c.in-State.state c.in-State.is).most
