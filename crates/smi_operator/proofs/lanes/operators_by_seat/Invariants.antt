use Rattle.std.proofs.Common.{◌≡◌, ◌++◌, drop}
use Rattle.smi_operator.specs.Lanes.{by_seat}
use Rattle.smi_operator.proofs.lanes.operators_by_seat.Given as goal

-- the seats so far, and those of the operators that are left, are all
abbrev pub invariant-loop-operator : goal.invariant-loop-operator
invariant-loop-operator l = l.seats.items ++ by_seat (drop l.operator-index l.operators) ≡ by_seat l.operators
