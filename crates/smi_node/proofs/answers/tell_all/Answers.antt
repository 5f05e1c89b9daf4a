use Rattle.std.proofs.Common.{◌≡◌, ◌∷◌, ◌+◌, List, drop, drop_of_length-le, refl, subst, sym, ap, ◌∙◌}
use Rattle.smi_protocol.specs.declared.order.Answer.{Answer}
use Rattle.smi_node.specs.Told.{TellsAll}
use Rattle.smi_node.proofs.Sends.{drop_next}
use Rattle.smi_node.proofs.answers.tell_all.Goals as goal

pub loop-answer-preserved : goal.loop-answer-preserved
loop-answer-preserved c =
    λ after more.
    let a = c.answer-item.result in
    let xs = c.args.answers.now in
    let i = c.loop-answer.answer-index in
    let next : drop i xs ≡ a ∷ drop (i + 1) xs = drop_next xs i a c.loop-answer-test.true
    ∙ ap (λ (x : Answer). x ∷ drop (i + 1) xs) (sym c.answer-item.is) in
    c.loop-answer.invariant after
    (subst (λ (rest : List Answer). TellsAll c.args.operators.now rest c.loop-answer.desk after) (sym next)
    (c.tell_one.new.desk, c.tell_one.ensures, more))

pub returns : goal.returns
returns c =
    c.loop-answer.invariant c.loop-answer.desk
    (subst (λ (rest : List Answer). TellsAll c.args.operators.now rest c.loop-answer.desk c.loop-answer.desk)
    (sym (drop_of_length-le c.args.answers.now c.loop-answer-test.false)) refl)
