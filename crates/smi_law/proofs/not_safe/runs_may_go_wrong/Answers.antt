use Rattle.std.proofs.Common.{ℕ, ◌≡◌, arith}
use Rattle.smi_law.specs.Trace.{runs_under}
use Rattle.smi_law.proofs.NotBacked.{not_ordered, ordered_twice, manual_child}
use Rattle.smi_law.proofs.NotBacked.{released_parent, ended_parent, not_handed_on, let_go}
use Rattle.smi_law.proofs.not_safe.runs_may_go_wrong.Goals as goal

pub returns-clause-not_ordered : goal.returns-clause-not_ordered
returns-clause-not_ordered c = λ safe. not_ordered safe.runs.0

pub returns-clause-ordered_twice : goal.returns-clause-ordered_twice
returns-clause-ordered_twice c = λ safe. ordered_twice safe.runs.0

pub returns-clause-manual_child : goal.returns-clause-manual_child
returns-clause-manual_child c = λ safe. manual_child safe.runs.0

pub returns-clause-released_parent : goal.returns-clause-released_parent
returns-clause-released_parent c = λ safe. released_parent safe.runs.0

pub returns-clause-ended_parent : goal.returns-clause-ended_parent
returns-clause-ended_parent c = λ safe. ended_parent safe.runs.0

pub returns-clause-not_handed_on : goal.returns-clause-not_handed_on
returns-clause-not_handed_on c = λ safe. not_handed_on safe.runs.0

pub returns-clause-let_go : goal.returns-clause-let_go
returns-clause-let_go c = λ safe. let_go safe.runs.0

pub returns-clause-out_of_order : goal.returns-clause-out_of_order
unfolding runs_under
returns-clause-out_of_order c = λ safe. let turn : ◌≡◌ {A = ℕ} 2 1 = safe.order.0 in omega (arith, turn)

pub returns-clause-twice : goal.returns-clause-twice
unfolding runs_under
returns-clause-twice c = λ safe. let turn : ◌≡◌ {A = ℕ} 1 2 = safe.order.0 in omega (arith, turn)
