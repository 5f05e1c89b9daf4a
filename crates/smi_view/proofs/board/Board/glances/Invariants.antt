use Rattle.std.proofs.Common.{◌≡◌, length, All}
use Rattle.smi_view.specs.Shows.{HasSeenNothing}
use Rattle.smi_view.proofs.board.Board.glances.Given as goal

abbrev pub invariant-loop : goal.invariant-loop
invariant-loop g l = (l.self ≡ l.initial.self) × (length l.glances.items ≡ l.counter)
    × All HasSeenNothing l.glances.items
