use Rattle.std.proofs.Common.{◌≡◌, ◌++◌, drop, length, map, take, Some}
use Rattle.smi_session.specs.SeatTable.{queues_over}
use Rattle.smi_session.proofs.seat_table.SeatTable.open.Given as goal

-- what is there and what is still to come are all of it
abbrev pub invariant-loop-number : goal.invariant-loop-number
invariant-loop-number l =
    (l.own.items ++ take (length l.left.rest.items) (drop l.number l.operators)
    ≡ take (length l.fn.seats.items) l.operators)
    × (l.queues.items ++ queues_over l.number (drop l.number l.operators) l.left.rest.items
    ≡ queues_over 0 l.operators l.fn.seats.items)
    × (map (λ q. q.operator) l.queues.items ≡ map Some l.own.items)
