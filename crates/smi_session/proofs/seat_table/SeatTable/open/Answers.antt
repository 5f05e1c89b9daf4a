use Rattle.std.proofs.Common.{◌≡◌, ◌⊎◌, inl, inr, [], drop, sym, ◌∙◌, drop_of_length-le}
use Rattle.smi_session.proofs.Seating.{all_opened, no_length}
use Rattle.smi_session.proofs.seat_table.SeatTable.open.Goals.{else-loop-number-test}
use Rattle.smi_session.proofs.seat_table.SeatTable.open.Goals.{then-loop-number-test+in_default}
use Rattle.smi_session.proofs.seat_table.SeatTable.open.Goals as goal

pub returns : goal.returns
returns c =
    let ended : (drop c.loop-number.number c.args.operators.now ≡ []) ⊎ (c.loop-number.left.rest.items ≡ [])
    = elim c.loop-number-test.branch [
      | else-loop-number-test w ↦ inl (drop_of_length-le _ w.loop-number-test.false)
      | then-loop-number-test+in_default w ↦
          inr (no_length _ (sym c.loop-number.left.rest.ok.0 ∙ w.in_default.ensures.cases.0))
    ] in
    rw (c.in_ok-with_capacity.ensures.items) (all_opened c.loop-number.number c.args.operators.now
    c.loop-number.own.items (drop c.loop-number.number c.args.operators.now)
    c.args.seats.items c.loop-number.left.rest.items c.args.reports c.loop-number.queues.items
    c.add_queue-2.new.queues.items c.loop-number.invariant.0 c.loop-number.invariant.1
    c.in_ok-add_queue-2.ensures ended)
