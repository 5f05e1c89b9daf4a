use Rattle.smi_session.proofs.Seating.{all_own, nobody, over, speaks}
use Rattle.smi_session.proofs.law.orders_go_to_their_operators_seat.Goals as goal

pub returns-clause-operator : goal.returns-clause-operator
returns-clause-operator c = speaks

pub returns-clause-nobody : goal.returns-clause-nobody
returns-clause-nobody c = nobody

pub returns-clause-seats : goal.returns-clause-seats
returns-clause-seats c = over

pub returns-clause-operators : goal.returns-clause-operators
returns-clause-operators c = all_own
