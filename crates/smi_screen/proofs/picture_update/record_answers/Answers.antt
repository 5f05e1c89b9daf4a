use Rattle.std.proofs.Common.{◌≡◌, ◌∷◌, ◌+◌, List, drop, drop_of_length-le, subst, sym, ap, ◌∙◌}
use Rattle.std.specs.List.{flat_map}
use Rattle.smi_protocol.specs.declared.order.Answer.{Answer}
use Rattle.smi_node.proofs.Sends.{drop_next}
use Rattle.smi_view.specs.Noted.{TakesIn}
use Rattle.smi_view.proofs.Notes.{takes_both, takes_none}
use Rattle.smi_screen.specs.Noting.{answer_notes}
use Rattle.smi_screen.proofs.picture_update.record_answers.Goals as goal

pub loop-answer-preserved : goal.loop-answer-preserved
loop-answer-preserved c =
    λ after more.
    let a = c.answer-item.result in
    let xs = c.args.answers.now in
    let i = c.loop-answer.answer-index in
    let notes = answer_notes c.args.now in
    let next : drop i xs ≡ a ∷ drop (i + 1) xs = drop_next xs i a c.loop-answer-test.true
    ∙ ap (λ (x : Answer). x ∷ drop (i + 1) xs) (sym c.answer-item.is) in
    c.loop-answer.invariant after
    (subst (λ (rest : List Answer). TakesIn (flat_map notes rest) c.loop-answer.picture after) (sym next)
    (takes_both (notes a) (flat_map notes (drop (i + 1) xs)) c.loop-answer.picture c.record_answer.new.picture after
    c.record_answer.ensures more))

pub returns : goal.returns
returns c =
    let notes = answer_notes c.args.now in
    c.loop-answer.invariant c.loop-answer.picture
    (subst (λ (rest : List Answer). TakesIn (flat_map notes rest) c.loop-answer.picture c.loop-answer.picture)
    (sym (drop_of_length-le c.args.answers.now c.loop-answer-test.false)) (takes_none c.loop-answer.picture))
