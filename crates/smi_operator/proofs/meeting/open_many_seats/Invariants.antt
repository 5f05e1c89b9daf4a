use Rattle.std.proofs.Common.{◌≡◌, length}
use Rattle.smi_operator.specs.Sides.{AreSeats}
use Rattle.smi_operator.proofs.meeting.open_many_seats.Given as goal

abbrev pub invariant-loop : goal.invariant-loop
invariant-loop l = AreSeats l.seats.items l.seat_ends.items × (length l.seats.items ≡ l.counter)
    × (length l.seat_ends.items ≡ l.counter)
