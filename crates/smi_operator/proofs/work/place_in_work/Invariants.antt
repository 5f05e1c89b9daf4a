use Rattle.smi_operator.specs.Working.{IsOfNone}
use Rattle.smi_operator.proofs.work.place_in_work.Given as goal

-- none so far is what the answer is of
abbrev pub invariant-loop-place : goal.invariant-loop-place
invariant-loop-place l = IsOfNone l.order l.mark l.work l.place
