use Rattle.std.proofs.Common.{◌≡◌, ◌∙◌, ap, sym, subst, true}
use Rattle.std.specs.Prelude.{OnOk, Result}
use Rattle.smi_message.specs.Message.{Message, is_message}
use Rattle.smi_message.specs.Spelling.{reading}
use Rattle.smi_message.specs.declared.Bad.{Bad}
use Rattle.smi_message.proofs.Laws.{spelled_is_read}
use Rattle.smi_protocol.specs.Step.{after, after_reading}
use Rattle.smi_station.specs.Core.{number_of, station_of, tree_of}
use Rattle.smi_world.specs.Coming.{happening}
use Rattle.smi_world.specs.Made.{Steps}
use Rattle.smi_world.specs.declared.coming.Coming.{Coming}
use Rattle.smi_world.proofs.Messages.{message_is}
use Rattle.smi_world.proofs.stepping.step_with.Goals as goal

pub returns-in-Datagram-clause-steps : goal.returns-in-Datagram-clause-steps
returns-in-Datagram-clause-steps c =
    let now = c.args.station.now.core in
    subst (λ (w : Coming). OnOk c.step.result (Steps now c.step.new.station.core
    (after (tree_of now) (number_of now) (station_of now) (happening w)) c.step.new.out)) (sym c.in-Datagram.is)
    (subst (λ (r : Result Message Bad). OnOk c.step.result (Steps now c.step.new.station.core
    (after_reading (tree_of now) (number_of now) (station_of now) r) c.step.new.out))
    (ap reading c.encode-bytes.ensures ∙ spelled_is_read c.in-Datagram.datagram
    (subst (λ (m : Message). is_message m ≡ true) c.datagram.view_is (message_is _ c.datagram.invariant)))
    c.step.ensures.steps)

pub returns-in-Order-clause-steps : goal.returns-in-Order-clause-steps
returns-in-Order-clause-steps c =
    let now = c.args.station.now.core in
    subst (λ (w : Coming). OnOk c.step-in-Order.result
    (Steps now c.step-in-Order.new.station.core
    (after (tree_of now) (number_of now) (station_of now) (happening w)) c.step-in-Order.new.out)) (sym c.in-Order.is)
    c.step-in-Order.ensures.steps
