use Rattle.std.specs.Prelude.{◌≤◌}
use Rattle.smi_session.specs.SeatTable.{GivesMany}
use Rattle.smi_session.proofs.seat_table.SeatTable.give_held.Given as goal

-- so many orders had their turn
abbrev pub invariant-loop : goal.invariant-loop
invariant-loop l = GivesMany l.counter l.fn.self l.self l.place × (l.place ≤ l.counter)
