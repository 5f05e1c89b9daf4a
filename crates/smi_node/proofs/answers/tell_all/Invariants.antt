use Rattle.std.proofs.Common.{drop}
use Rattle.smi_operator.specs.declared.ends.Desk.{Desk}
use Rattle.smi_node.specs.Told.{TellsAll}
use Rattle.smi_node.proofs.answers.tell_all.Given as goal

-- whatever the others leave, all leave
abbrev pub invariant-loop-answer : goal.invariant-loop-answer
invariant-loop-answer l = (after : Desk) → TellsAll l.operators (drop l.answer-index l.answers) l.desk after
    → TellsAll l.operators l.answers l.initial.desk after
