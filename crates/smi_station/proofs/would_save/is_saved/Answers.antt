use Rattle.std.proofs.Common.{◌≡◌, sym, subst}
use Rattle.std.specs.Prelude.{is_some}
use Rattle.smi_protocol.specs.Step.{after_event}
use Rattle.smi_protocol.specs.declared.event.Event.{Event}
use Rattle.smi_station.proofs.would_save.is_saved.Goals as goal

pub returns-in-Datagram : goal.returns-in-Datagram
returns-in-Datagram c = λ s same.
    subst (λ (e : Event). c.is_saved_for_bytes.result
    ≡ is_some (after_event c.args.kept.now.tree c.args.kept.now.number s e).saved) (sym c.in-Datagram.is)
    (c.is_saved_for_bytes.ensures s same)

pub returns-in-Order : goal.returns-in-Order
returns-in-Order c = λ s same.
    subst (λ (e : Event). c.is_saved_for_order.result
    ≡ is_some (after_event c.args.kept.now.tree c.args.kept.now.number s e).saved) (sym c.in-Order.is)
    (c.is_saved_for_order.ensures s same)
