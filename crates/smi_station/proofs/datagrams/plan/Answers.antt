use Rattle.smi_station.proofs.Ran.{ran_action}
use Rattle.std.proofs.Common.{◌≡◌, ◌≤◌, ◌∙◌, None, length, sym, ap, subst, arith}
use Rattle.smi_message.specs.Message.{Message}
use Rattle.smi_station_grants.specs.GrantTable.{grants_of}
use Rattle.smi_protocol.specs.Refusals.{refusal_of_message}
use Rattle.smi_protocol.specs.Keeping.{drop_comes, take_comes}
use Rattle.smi_protocol.specs.Hearing.{tell_comes}
use Rattle.smi_protocol.specs.Step.{Out}
use Rattle.smi_station_decide.specs.Handing.{with_step}
use Rattle.smi_station.proofs.Accepted.{asked_there, dropped_there, run_there, taken_there, told_there}
use Rattle.smi_station.proofs.Outcomes.{drop_answers, few_by, run_answers, take_answers}
use Rattle.smi_station.proofs.datagrams.plan.Goals as goal

pub answer_ask-requires-clause-domain : goal.answer_ask-requires-clause-domain
answer_ask-requires-clause-domain c =
    let k = c.args.kept.now in
    asked_there k.tree c.tree-tree.ensures.kept.tree k.number _ c.datagram.invariant.body
    (subst (λ (m : Message). refusal_of_message k.tree k.number m ≡ None) (sym c.datagram.view_is)
    c.requires.accepted)
    c.in-Ask.domain c.in-Ask.is

pub decide_take-requires-clause-domain : goal.decide_take-requires-clause-domain
decide_take-requires-clause-domain c =
    let k = c.args.kept.now in
    (taken_there k.tree c.tree-tree.ensures.kept.tree k.number _ c.datagram.invariant.body
    (subst (λ (m : Message). refusal_of_message k.tree k.number m ≡ None) (sym c.datagram.view_is)
    c.requires.accepted)
    c.in-Take.domain c.in-Take.holder c.in-Take.seen c.in-Take.is).domain

pub decide_drop-requires-clause-domain : goal.decide_drop-requires-clause-domain
decide_drop-requires-clause-domain c =
    let k = c.args.kept.now in
    (dropped_there k.tree c.tree-tree.ensures.kept.tree k.number _ c.datagram.invariant.body
    (subst (λ (m : Message). refusal_of_message k.tree k.number m ≡ None) (sym c.datagram.view_is)
    c.requires.accepted)
    c.in-Drop.domain c.in-Drop.holder c.in-Drop.epoch c.in-Drop.is).domain

pub decide_run-requires-clause-domain : goal.decide_run-requires-clause-domain
decide_run-requires-clause-domain c =
    let k = c.args.kept.now in
    (run_there k.tree c.tree-tree.ensures.kept.tree k.number _ c.datagram.invariant.body
    (subst (λ (m : Message). refusal_of_message k.tree k.number m ≡ None) (sym c.datagram.view_is)
    c.requires.accepted)
    c.in-Run.domain c.in-Run.holder c.in-Run.epoch c.in-Run.number c.in-Run.command c.in-Run.is).0.domain

pub decide_tell-requires-clause-domain : goal.decide_tell-requires-clause-domain
decide_tell-requires-clause-domain c =
    let k = c.args.kept.now in
    (told_there k.tree c.tree-tree.ensures.kept.tree k.number _ c.datagram.invariant.body
    (subst (λ (m : Message). refusal_of_message k.tree k.number m ≡ None) (sym c.datagram.view_is)
    c.requires.accepted)
    c.in-Tell.domain c.in-Tell.news c.in-Tell.is).0

pub returns-in-Take-clause-plan : goal.returns-in-Take-clause-plan
returns-in-Take-clause-plan c = rw (← c.datagram.view_is, c.in-Take.is) c.decide_take.ensures.plan

pub returns-in-Take-clause-sent : goal.returns-in-Take-clause-sent
returns-in-Take-clause-sent c =
    let k = c.args.kept.now in
    rw (← c.datagram.view_is, c.in-Take.is) (c.decide_take.ensures.sent
    ∙ ap (λ (o : Out). with_step o (take_comes k.tree k.number (grants_of k) c.datagram.inside.from
    c.in-Take.domain c.in-Take.holder c.in-Take.seen)) c.requires.empty)

pub returns-in-Take-clause-few : goal.returns-in-Take-clause-few
returns-in-Take-clause-few c =
    let k = c.args.kept.now in
    subst (λ (o : Out). length o.answers ≤ 8) (sym
    (c.decide_take.ensures.sent
    ∙ ap (λ (o : Out). with_step o (take_comes k.tree k.number (grants_of k) c.datagram.inside.from
    c.in-Take.domain c.in-Take.holder c.in-Take.seen)) c.requires.empty))
    (take_answers k.tree k.number (grants_of k) c.datagram.inside.from c.in-Take.domain c.in-Take.holder
    c.in-Take.seen)

pub returns-in-Drop-clause-plan : goal.returns-in-Drop-clause-plan
returns-in-Drop-clause-plan c = rw (← c.datagram.view_is, c.in-Drop.is) c.decide_drop.ensures.plan

pub returns-in-Drop-clause-sent : goal.returns-in-Drop-clause-sent
returns-in-Drop-clause-sent c =
    let k = c.args.kept.now in
    rw (← c.datagram.view_is, c.in-Drop.is) (c.decide_drop.ensures.sent
    ∙ ap (λ (o : Out). with_step o (drop_comes k.tree k.number (grants_of k) c.datagram.inside.from
    c.in-Drop.domain c.in-Drop.holder c.in-Drop.epoch)) c.requires.empty)

pub returns-in-Drop-clause-few : goal.returns-in-Drop-clause-few
returns-in-Drop-clause-few c =
    let k = c.args.kept.now in
    subst (λ (o : Out). length o.answers ≤ 8) (sym
    (c.decide_drop.ensures.sent
    ∙ ap (λ (o : Out). with_step o (drop_comes k.tree k.number (grants_of k) c.datagram.inside.from
    c.in-Drop.domain c.in-Drop.holder c.in-Drop.epoch)) c.requires.empty))
    (drop_answers k.tree k.number (grants_of k) c.datagram.inside.from c.in-Drop.domain c.in-Drop.holder
    c.in-Drop.epoch)

pub returns-in-Run-clause-plan : goal.returns-in-Run-clause-plan
returns-in-Run-clause-plan c = rw (← c.datagram.view_is, c.in-Run.is) c.decide_run.ensures.plan

pub returns-in-Run-clause-action : goal.returns-in-Run-clause-action
returns-in-Run-clause-action c =
    let k = c.args.kept.now in
    rw (← c.datagram.view_is, c.in-Run.is) (ran_action k.tree (grants_of k) c.in-Run.domain c.in-Run.holder
    c.in-Run.epoch c.in-Run.number c.in-Run.command c.decide_run.result c.decide_run.ensures.runs)

pub returns-in-Run-clause-sent : goal.returns-in-Run-clause-sent
returns-in-Run-clause-sent c = rw (← c.datagram.view_is, c.in-Run.is) (rw c.requires.empty at c.decide_run.ensures.sent)

pub returns-in-Run-clause-few : goal.returns-in-Run-clause-few
returns-in-Run-clause-few c =
    let k = c.args.kept.now in
    few_by c.decide_run.result _ _ c.decide_run.new.out (rw c.requires.empty at c.decide_run.ensures.sent)
    (rw c.requires.empty at c.decide_run.ensures.unchanged)
    (run_answers k.tree k.number (grants_of k) c.datagram.inside.from c.in-Run.domain c.in-Run.holder
    c.in-Run.epoch c.in-Run.number c.in-Run.command) (omega arith)

pub returns-in-Run-clause-memory : goal.returns-in-Run-clause-memory
returns-in-Run-clause-memory c = rw (← c.datagram.view_is, c.in-Run.is) c.decide_run.ensures.memory

pub returns-in-Tell-clause-plan : goal.returns-in-Tell-clause-plan
returns-in-Tell-clause-plan c = rw (← c.datagram.view_is, c.in-Tell.is) c.decide_tell.ensures.plan

pub returns-in-Tell-clause-sent : goal.returns-in-Tell-clause-sent
returns-in-Tell-clause-sent c =
    let k = c.args.kept.now in
    rw (← c.datagram.view_is, c.in-Tell.is) (c.decide_tell.ensures.sent
    ∙ ap (λ (o : Out). with_step o (tell_comes k.tree k.number (grants_of k) c.in-Tell.domain c.in-Tell.news))
    c.requires.empty)
