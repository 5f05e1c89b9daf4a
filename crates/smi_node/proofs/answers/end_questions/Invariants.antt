use Rattle.std.proofs.Common.{drop}
use Rattle.smi_operator.specs.declared.ends.Desk.{Desk}
use Rattle.smi_node.specs.Told.{EndsQuestions}
use Rattle.smi_node.proofs.answers.end_questions.Given as goal

-- whatever the other seats leave, all leave
abbrev pub invariant-loop-seat : goal.invariant-loop-seat
invariant-loop-seat l = (after : Desk) → EndsQuestions l.who l.asking (drop l.seat l.operators) l.seat l.desk after
    → EndsQuestions l.who l.asking l.operators 0 l.initial.desk after
