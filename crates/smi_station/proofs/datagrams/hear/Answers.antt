use Rattle.std.proofs.Common.{◌≡◌, ◌∙◌, true, ap, subst}
use Rattle.smi_message.specs.Message.{Message, is_body}
use Rattle.smi_station_grants.specs.GrantTable.{grants_of}
use Rattle.smi_station_output.specs.Out.{with_notice}
use Rattle.smi_protocol.specs.GrantsOf.{datagram_comes}
use Rattle.smi_protocol.specs.Happening.{Comes}
use Rattle.smi_protocol.specs.Step.{Out, body_noticed}
use Rattle.smi_protocol.proofs.SoundSteps.{stays_sound}
use Rattle.smi_station_display.specs.Displayed.{display_of}
use Rattle.smi_station.proofs.Heard.{heard_out, heard_station, noticed_room, rest_twice}
use Rattle.smi_station.proofs.Quiet.{still_halves}
use Rattle.std.specs.Prelude.{is_some, Result}
use Rattle.smi_station_grants.specs.Save.{IfMemory}
use Rattle.smi_protocol.specs.declared.event.Heard.{Heard}
use Rattle.smi_protocol.specs.declared.event.StepFault.{StepFault}
use Rattle.smi_station.specs.Making.{row_of}
use Rattle.smi_station.proofs.datagrams.hear.Goals as goal

pub update_objects-requires-clause-room : goal.update_objects-requires-clause-room
update_objects-requires-clause-room g c = noticed_room c.args.display.now c.update_display.new.display
    c.args.datagram.now c.update_display.ensures.display c.requires.room

pub returns-in-Ok-apply_change-clause-station : goal.returns-in-Ok-apply_change-clause-station
returns-in-Ok-apply_change-clause-station g c =
    let k = c.args.kept.now in
    let m = c.args.datagram.now in
    heard_station k c.apply_change.new.kept c.args.display.now c.update_display.new.display
    c.update_objects.new.display m
    c.snapshot_before-found.result.domain c.snapshot_before-found.result.action c.snapshot_before-found.result.before
    c.requires.halves (c.in-Ok-apply_change.ensures.grants (datagram_comes k.tree k.number (grants_of k) m.from m.body)
    c.in-Ok.ensures.plan) c.update_display.ensures.display c.update_display.ensures.rest
    c.snapshot_before-found.ensures.domain c.snapshot_before-found.ensures.before c.snapshot_before-found.ensures.action
    c.update_objects.ensures.display
    c.update_objects.result c.update_objects.ensures.spent

pub returns-in-Ok-apply_change-clause-heard : goal.returns-in-Ok-apply_change-clause-heard
returns-in-Ok-apply_change-clause-heard g c =
    let k = c.args.kept.now in
    let m = c.args.datagram.now in
    c.in-Ok-apply_change.ensures.heard (datagram_comes k.tree k.number (grants_of k) m.from m.body) c.in-Ok.ensures.plan

pub returns-in-Ok-apply_change-clause-out : goal.returns-in-Ok-apply_change-clause-out
returns-in-Ok-apply_change-clause-out g c =
    let k = c.args.kept.now in
    let d = c.args.display.now in
    let m = c.args.datagram.now in
    heard_out k c.apply_change.new.kept d c.update_display.new.display c.update_objects.new.display m
    c.snapshot_before-found.result.domain c.snapshot_before-found.result.action c.snapshot_before-found.result.before
    c.requires.halves (c.in-Ok-apply_change.ensures.grants (datagram_comes k.tree k.number (grants_of k) m.from m.body)
    c.in-Ok.ensures.plan) c.update_display.ensures.display c.update_display.ensures.rest
    c.snapshot_before-found.ensures.domain c.snapshot_before-found.ensures.before c.snapshot_before-found.ensures.action
    c.update_objects.ensures.display
    c.update_display.new.out c.update_objects.new.out
    (c.update_display.ensures.sent
    ∙ ap (λ (o : Out). with_notice o (body_noticed d.tree d.number d.published.boot (display_of d) m.from m.body))
    (c.in-Ok-apply_change.ensures.out ∙ c.in-Ok.ensures.sent))
    c.update_objects.ensures.sent

pub returns-in-Ok-apply_change-clause-store : goal.returns-in-Ok-apply_change-clause-store
returns-in-Ok-apply_change-clause-store g c =
    let k = c.args.kept.now in
    let m = c.args.datagram.now in
    rw (← c.in-Ok-apply_change.is) (c.apply_change.ensures.store (datagram_comes k.tree k.number (grants_of k)
    m.from m.body)
    c.in-Ok.ensures.plan)

pub returns-in-Ok-apply_change-clause-halves : goal.returns-in-Ok-apply_change-clause-halves
returns-in-Ok-apply_change-clause-halves g c =
    let k = c.args.kept.now in
    let m = c.args.datagram.now in
    let step = datagram_comes k.tree k.number (grants_of k) m.from m.body in
    still_halves k c.apply_change.new.kept c.args.display.now c.update_objects.new.display step.grants c.requires.halves
    c.in-Ok-apply_change.ensures.same
    (rest_twice c.args.display.now c.update_display.new.display c.update_objects.new.display
    c.update_display.ensures.rest c.update_objects.ensures.rest)
    (c.in-Ok-apply_change.ensures.grants step c.in-Ok.ensures.plan)
    (stays_sound k.tree k.number (grants_of k) (Comes m) c.tree-tree.ensures.kept.tree c.requires.halves.sound
    (subst (λ (m : Message). is_body m.body ≡ true) c.datagram.view_is c.datagram.invariant.body) c.requires.accepted)

pub returns-clause-store : goal.returns-clause-store
returns-clause-store g c =
    let k = c.args.kept.now in
    let m = c.args.datagram.now in
    rw (← c.in-Err.is) (c.apply_change.ensures.store (datagram_comes k.tree k.number (grants_of k) m.from m.body)
    c.in-Ok.ensures.plan)

pub returns-clause-memory : goal.returns-clause-memory
returns-clause-memory g c =
    let k = c.args.kept.now in
    let step = datagram_comes k.tree k.number (grants_of k) c.args.datagram.now.from c.args.datagram.now.body in
    subst (λ (r : Result Heard StepFault). IfMemory r (is_some (row_of k.tree k.number step) ≡ true)) c.in-Err.is
    (c.apply_change.ensures.memory step c.in-Ok.ensures.plan)
