use Rattle.std.proofs.Common.{drop}
use Rattle.std.specs.List.{flat_map}
use Rattle.smi_view.specs.Noted.{TakesIn}
use Rattle.smi_view.specs.Pictured.{Pictured}
use Rattle.smi_screen.specs.Noting.{answer_notes}
use Rattle.smi_screen.proofs.picture_update.record_answers.Given as goal

-- whatever the others leave, all leave
abbrev pub invariant-loop-answer : goal.invariant-loop-answer
invariant-loop-answer l =
    (after : Pictured) → TakesIn (flat_map (answer_notes l.now) (drop l.answer-index l.answers)) l.picture after
    → TakesIn (flat_map (answer_notes l.now) l.answers) l.initial.picture after
