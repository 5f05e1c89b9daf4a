use Rattle.std.proofs.Common.{◌<◌, ◌≤◌, ◌∙◌, ◌+◌, List, Option, length, drop, drop_of_length-le, ap, sym, subst}
use Rattle.std.proofs.Common.{arith}
use Rattle.smi_command.specs.declared.Settlement.{Settlement}
use Rattle.smi_station_output.specs.Out.{answered_after}
use Rattle.smi_protocol.specs.Messages.{if_any}
use Rattle.smi_protocol.specs.Step.{Out}
use Rattle.smi_protocol.specs.declared.Answer.{Answer}
use Rattle.smi_station_decide.proofs.Answering.{all_answered, answer_next, answers_from, few_more}
use Rattle.smi_station_decide.proofs.tell.send_answers.Goals as goal

pub loop-i-preserved : goal.loop-i-preserved
loop-i-preserved c =
    let o = c.args.operator in
    let d = c.args.domain in
    let l = c.args.link.now in
    let xs = c.args.settlements.now in
    let i = c.loop-i.i in
    let out = c.loop-i.out in
    let rest = answers_from o d l (i + 1) (drop (i + 1) xs) in
    let within = subst (λ n. i < n) c.len-i-end.ensures.value c.loop-i-test.true in
    record {
      all =
          ap (λ (z : Out). record z { answers = answered_after z.answers rest }) c.send_if_any.ensures
          ∙ ap (λ (a : Option Answer). record out {
            answers = answered_after (answered_after out.answers (if_any a))
                rest;
          }) c.answer_for.ensures
          ∙ ap (λ (zs : List Answer). record out { answers = zs }) (sym (answer_next out.answers o d l xs i within))
          ∙ c.loop-i.invariant.all;
      few =
          let long = few_more out.answers c.answer_for.result in
          let same = ap (λ (z : Out). length z.answers) c.send_if_any.ensures in
          omega (arith, long, same, c.loop-i.invariant.few);
    }

pub returns-clause-answers : goal.returns-clause-answers
returns-clause-answers c =
    let o = c.args.operator in
    let d = c.args.domain in
    let l = c.args.link.now in
    let xs = c.args.settlements.now in
    let past = subst (λ n. n ≤ c.loop-i.i) c.len-i-end.ensures.value c.loop-i-test.false in
    ap (λ (ys : List Settlement). record c.loop-i.out {
      answers = answered_after c.loop-i.out.answers
          (answers_from o d l c.loop-i.i ys);
    }) (sym (drop_of_length-le xs past))
    ∙ c.loop-i.invariant.all
    ∙ ap (λ (zs : List Answer). record c.args.out.now { answers = answered_after c.args.out.now.answers zs })
    (all_answered o d l xs)
