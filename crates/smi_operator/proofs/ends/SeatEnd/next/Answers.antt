use Rattle.std.proofs.Common.{◌≡◌, sym, ap, ◌∙◌}
use Rattle.rtrb.specs.Ring.{known_items}
use Rattle.smi_operator.specs.Sides.{room}
use Rattle.smi_operator.specs.Working.{may_join}
use Rattle.smi_operator.proofs.Firsts.{first_refused, first_given}
use Rattle.smi_operator.proofs.ends.SeatEnd.next.Goals as goal

pub returns-then-not-may_join-clause-succeeds : goal.returns-then-not-may_join-clause-succeeds
returns-then-not-may_join-clause-succeeds c =
    let x = c.peek_known-order.result.now in
    let same : may_join c.args.self.now.work.items x ≡ c.may_join.result =
    ap (λ work. may_join work x) (sym c.as_slice.ensures.value) ∙ sym c.may_join.ensures.value in
    first_refused
    (known_items c.args.self.now.orders)
    (known_items c.slots.new.self)
    x
    c.args.self.now.work.items
    (room c.args.self.now)
    c.slots.ensures.looked.2
    c.peek_known-order.ensures
    (same ∙ c.if-not-may_join.true)

pub returns-clause-succeeds : goal.returns-clause-succeeds
returns-clause-succeeds c =
    first_given
    (known_items c.args.self.now.orders)
    (known_items c.slots.new.self)
    (known_items c.pop_known-order.new.self)
    c.pop_known-order.result
    c.args.self.now.work.items
    (room c.args.self.now)
    c.slots.ensures.looked.2
    c.pop_known-order.ensures.received.1
