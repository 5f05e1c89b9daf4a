use Rattle.std.proofs.Common.{[], List, ap}
use Rattle.smi_station_output.specs.Out.{answered_after}
use Rattle.smi_protocol.specs.declared.Answer.{Answer}
use Rattle.smi_station_decide.proofs.Answering.{all_answered}
use Rattle.smi_station_decide.proofs.tell.answer_heard.Goals as goal

pub returns-in-Unchanged-clause-answers : goal.returns-in-Unchanged-clause-answers
returns-in-Unchanged-clause-answers c =
    let out = c.args.out.now in
    rw c.in-Unchanged.is (ap (λ (zs : List Answer). record out { answers = answered_after out.answers zs })
    (all_answered c.args.operator c.args.domain c.args.link.now []))

pub returns-in-Renewed-clause-answers : goal.returns-in-Renewed-clause-answers
returns-in-Renewed-clause-answers c =
    let out = c.args.out.now in
    rw c.in-Renewed.is (ap (λ (zs : List Answer). record out { answers = answered_after out.answers zs })
    (all_answered c.args.operator c.args.domain c.args.link.now []))
