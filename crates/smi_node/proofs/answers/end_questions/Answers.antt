use Rattle.std.proofs.Common.{ℕ, List, drop_of_length-le, refl, subst, sym}
use Rattle.smi_node.specs.Told.{EndsIf, EndsQuestions}
use Rattle.smi_node.proofs.Sends.{drop_next}
use Rattle.smi_node.proofs.answers.end_questions.Goals as goal

pub loop-seat-preserved : goal.loop-seat-preserved
loop-seat-preserved c =
    λ after more.
    let i = c.loop-seat.seat in
    let ops = c.args.operators.now in
    let ended = subst (λ is. EndsIf is i c.loop-seat.desk c.end_if.new.desk) c.is_replaced-is_replaced.ensures.is
    c.end_if.ensures in
    c.loop-seat.invariant after
    (subst (λ (rest : List ℕ). EndsQuestions c.args.who c.args.asking rest i c.loop-seat.desk after)
    (sym (drop_next ops i 0 c.loop-seat-test.true)) (c.end_if.new.desk, ended, more))

pub returns : goal.returns
returns c =
    c.loop-seat.invariant c.loop-seat.desk
    (subst (λ (rest : List ℕ). EndsQuestions c.args.who c.args.asking rest c.loop-seat.seat c.loop-seat.desk
    c.loop-seat.desk) (sym (drop_of_length-le c.args.operators.now c.loop-seat-test.false)) refl)
