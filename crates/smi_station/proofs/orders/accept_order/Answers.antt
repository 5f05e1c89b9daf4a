use Rattle.std.proofs.Common.{◌≡◌, true, ◌<◌, ◌∙◌, [], List, ap, sym, subst, length, arith}
use Rattle.smi_station_grants.specs.GrantTable.{grants_of}
use Rattle.smi_station_output.specs.Out.{answered_after, most_answers, with_notice}
use Rattle.smi_station_decide.specs.Handing.{with_step}
use Rattle.smi_protocol.specs.Happening.{Orders}
use Rattle.smi_protocol.specs.Ordering.{order_comes}
use Rattle.smi_protocol.specs.Step.{Out}
use Rattle.smi_protocol.specs.Watching.{order_noticed}
use Rattle.smi_protocol.specs.declared.order.Answer.{Answer}
use Rattle.smi_protocol.proofs.SoundSteps.{stays_sound}
use Rattle.smi_station_display.specs.Displayed.{display_of}
use Rattle.smi_station.proofs.Quiet.{obeyed_out, obeyed_room, obeyed_station, order_answers, still_halves}
use Rattle.std.specs.Prelude.{is_some, Result}
use Rattle.smi_station_grants.specs.Save.{IfMemory}
use Rattle.smi_protocol.specs.declared.event.Heard.{Heard}
use Rattle.smi_protocol.specs.declared.event.StepFault.{StepFault}
use Rattle.smi_protocol.specs.GrantStep.{GrantStep}
use Rattle.smi_station_decide.specs.Plans.{Plans}
use Rattle.smi_station.specs.Making.{row_of}
use Rattle.smi_station.proofs.orders.accept_order.Goals as goal

pub order_comes-requires-clause-room : goal.order_comes-requires-clause-room
order_comes-requires-clause-room g c =
    let k = c.args.kept.now in
    let step = order_comes k.tree k.number (grants_of k) c.args.operator c.args.what.now in
    subst (λ (o : Out). length o.answers < most_answers)
    (sym (c.in-Ok.ensures.out ∙ c.obey-change.ensures.sent
    ∙ ap (λ (s : GrantStep). with_step c.args.out.now s) c.requires.decided ∙ ap (λ (o : Out). with_step o
    step) c.requires.empty))
    (subst (λ (xs : List Answer). length (answered_after [] xs) < most_answers)
    (sym (order_answers k.tree k.number (grants_of k) c.args.operator c.args.what.now)) (omega arith))

pub returns-in-Ok-clause-station : goal.returns-in-Ok-clause-station
returns-in-Ok-clause-station g c =
    let k = c.args.kept.now in
    obeyed_station k c.apply_change.new.kept c.args.display.now c.order_comes.new.self c.args.operator c.args.what.now
    c.requires.halves
    (c.in-Ok.ensures.grants (order_comes k.tree k.number (grants_of k) c.args.operator c.args.what.now)
    (subst (λ (s : GrantStep). Plans k.tree k.number (grants_of k) s c.obey-change.result) c.requires.decided
    c.obey-change.ensures.plan)) c.order_comes.ensures.display

pub returns-in-Ok-clause-heard : goal.returns-in-Ok-clause-heard
returns-in-Ok-clause-heard g c =
    let k = c.args.kept.now in
    c.in-Ok.ensures.heard (order_comes k.tree k.number (grants_of k) c.args.operator c.args.what.now)
    (subst (λ (s : GrantStep). Plans k.tree k.number (grants_of k) s c.obey-change.result) c.requires.decided
    c.obey-change.ensures.plan)

pub returns-in-Ok-clause-out : goal.returns-in-Ok-clause-out
returns-in-Ok-clause-out g c =
    let k = c.args.kept.now in
    let d = c.args.display.now in
    let step = order_comes k.tree k.number (grants_of k) c.args.operator c.args.what.now in
    obeyed_out k c.apply_change.new.kept d c.order_comes.new.self c.args.operator c.args.what.now c.requires.halves
    (c.in-Ok.ensures.grants step (subst (λ (s : GrantStep). Plans k.tree k.number (grants_of k) s
    c.obey-change.result) c.requires.decided
    c.obey-change.ensures.plan)) c.order_comes.ensures.display c.order_comes.new.out
    (c.order_comes.ensures.sent
    ∙ ap (λ (o : Out). with_notice o (order_noticed d.tree d.number d.published.boot (display_of d) c.args.operator
    c.args.what.now))
    (c.in-Ok.ensures.out ∙ c.obey-change.ensures.sent
    ∙ ap (λ (s : GrantStep). with_step c.args.out.now s) c.requires.decided ∙ ap (λ (o : Out). with_step o
    step) c.requires.empty))

pub returns-in-Ok-clause-store : goal.returns-in-Ok-clause-store
returns-in-Ok-clause-store g c =
    let k = c.args.kept.now in
    rw (← c.in-Ok.is)
    (c.apply_change.ensures.store (order_comes k.tree k.number (grants_of k) c.args.operator c.args.what.now)
    (subst (λ (s : GrantStep). Plans k.tree k.number (grants_of k) s c.obey-change.result) c.requires.decided
    c.obey-change.ensures.plan))

pub returns-in-Ok-clause-halves : goal.returns-in-Ok-clause-halves
returns-in-Ok-clause-halves g c =
    let k = c.args.kept.now in
    let step = order_comes k.tree k.number (grants_of k) c.args.operator c.args.what.now in
    still_halves k c.apply_change.new.kept c.args.display.now c.order_comes.new.self step.grants c.requires.halves
    c.in-Ok.ensures.same c.order_comes.ensures.rest
    (c.in-Ok.ensures.grants step (subst (λ (s : GrantStep). Plans k.tree k.number (grants_of k) s
    c.obey-change.result) c.requires.decided
    c.obey-change.ensures.plan))
    (stays_sound k.tree k.number (grants_of k) (Orders c.args.operator c.args.what.now) c.tree-tree.ensures.kept.tree
    c.requires.halves.sound tt c.requires.accepted)

pub returns-in-Ok-clause-room : goal.returns-in-Ok-clause-room
returns-in-Ok-clause-room g c =
    let k = c.args.kept.now in
    obeyed_room k c.apply_change.new.kept c.args.display.now c.order_comes.new.self c.args.operator c.args.what.now
    c.requires.halves
    (c.in-Ok.ensures.grants (order_comes k.tree k.number (grants_of k) c.args.operator c.args.what.now)
    (subst (λ (s : GrantStep). Plans k.tree k.number (grants_of k) s c.obey-change.result) c.requires.decided
    c.obey-change.ensures.plan)) c.order_comes.ensures.display c.requires.room

pub returns-clause-store : goal.returns-clause-store
returns-clause-store g c =
    let k = c.args.kept.now in
    rw (← c.in-Err.is)
    (c.apply_change.ensures.store (order_comes k.tree k.number (grants_of k) c.args.operator c.args.what.now)
    (subst (λ (s : GrantStep). Plans k.tree k.number (grants_of k) s c.obey-change.result) c.requires.decided
    c.obey-change.ensures.plan))

pub returns-clause-memory : goal.returns-clause-memory
returns-clause-memory g c =
    let k = c.args.kept.now in
    let step = order_comes k.tree k.number (grants_of k) c.args.operator c.args.what.now in
    subst (λ (r : Result Heard StepFault). IfMemory r (is_some (row_of k.tree k.number step) ≡ true)) c.in-Err.is
    (c.apply_change.ensures.memory step (subst (λ (s : GrantStep). Plans k.tree k.number (grants_of k) s
    c.obey-change.result) c.requires.decided
    c.obey-change.ensures.plan))
