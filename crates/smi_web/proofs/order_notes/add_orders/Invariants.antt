use Rattle.std.proofs.Common.{◌≡◌, ◌++◌, drop}
use Rattle.std.specs.List.{flat_map}
use Rattle.smi_web.specs.OrderNotes.{order_notes}
use Rattle.smi_web.proofs.order_notes.add_orders.Given as goal

-- with those of the orders left, all are there
abbrev pub invariant-loop-order : goal.invariant-loop-order
invariant-loop-order l =
    l.notes.items ++ flat_map (order_notes l.since.from l.since.moment) (drop l.order-index l.orders)
    ≡ l.initial.notes.items ++ flat_map (order_notes l.since.from l.since.moment) l.orders
