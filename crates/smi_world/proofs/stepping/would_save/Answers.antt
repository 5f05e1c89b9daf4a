use Rattle.std.proofs.Common.{◌≡◌, ◌∙◌, ap, sym, subst, true}
use Rattle.std.specs.Prelude.{Result, is_some}
use Rattle.smi_message.specs.Message.{Message, is_message}
use Rattle.smi_message.specs.Spelling.{reading}
use Rattle.smi_message.specs.declared.Bad.{Bad}
use Rattle.smi_message.proofs.Laws.{spelled_is_read}
use Rattle.smi_protocol.specs.Step.{after, after_reading}
use Rattle.smi_station.specs.Core.{number_of, station_of, tree_of}
use Rattle.smi_world.specs.Coming.{happening}
use Rattle.smi_world.specs.declared.coming.Coming.{Coming}
use Rattle.smi_world.proofs.Messages.{message_is}
use Rattle.smi_world.proofs.stepping.would_save.Goals as goal

pub returns-in-Datagram : goal.returns-in-Datagram
returns-in-Datagram c =
    let now = c.args.station.now.core in
    subst (λ (w : Coming). c.saves.result ≡ is_some
    (after (tree_of now) (number_of now) (station_of now) (happening w)).saved) (sym c.in-Datagram.is)
    (subst (λ (r : Result Message Bad). c.saves.result
    ≡ is_some (after_reading (tree_of now) (number_of now) (station_of now) r).saved)
    (ap reading c.encode-bytes.ensures ∙ spelled_is_read c.in-Datagram.datagram
    (subst (λ (m : Message). is_message m ≡ true) c.datagram.view_is (message_is _ c.datagram.invariant)))
    c.saves.ensures)
