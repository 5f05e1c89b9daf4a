use Rattle.std.proofs.Common.{◌∙◌, List, Some, sym, ap}
use Rattle.smi_grant.specs.declared.Shown.{Shown}
use Rattle.smi_message.specs.Message.{Message}
use Rattle.smi_publish.specs.Published.{conditions_of}
use Rattle.smi_station_output.specs.Out.{sent_after}
use Rattle.smi_protocol.specs.Showing.{is_spent}
use Rattle.smi_protocol.specs.Step.{Out}
use Rattle.smi_station_grants.specs.GrantTable.{grants_of}
use Rattle.smi_station_display.specs.Displayed.{display_of}
use Rattle.smi_station.specs.Stirring.{acted_by, shown_anew}
use Rattle.smi_station.proofs.Passing.{acted_first}
use Rattle.smi_station.proofs.Stirred.{all_shown, shown_sends, stirred_room, unit_room}
use Rattle.smi_station.proofs.object_update.update_objects_in.Goals as goal

pub publish_changes-is_spent-requires-clause-room : goal.publish_changes-is_spent-requires-clause-room
publish_changes-is_spent-requires-clause-room c =
    let d0 = c.args.display.now in
    unit_room d0 c.move_devices-changes.new.display (acted_by d0.tree (conditions_of d0.published) c.args.domain
    c.args.found.now.action) c.args.domain
    c.requires.domain.most c.move_devices-changes.ensures.display
    (acted_first d0.tree (conditions_of d0.published) c.args.domain c.args.found.now.action) c.requires.room

pub returns-clause-sent : goal.returns-clause-sent
returns-clause-sent c =
    let d0 = c.args.display.now in
    let mid = acted_by d0.tree (conditions_of d0.published) c.args.domain c.args.found.now.action in
    let changes = c.publish_changes-is_spent.new.changes in
    c.set_transitions.ensures
    ∙ ap (λ (o : Out). record o { passed = changes }) c.publish_changes-is_spent.ensures.sent
    ∙ ap (λ (xs : List Message). record c.args.out.now {
      datagrams = sent_after c.args.out.now.datagrams xs;
      passed = changes;
    })
    (shown_sends d0 c.move_devices-changes.new.display c.publish_changes-is_spent.new.self (grants_of c.args.kept.now)
    c.args.found.now.before mid c.args.domain c.move_devices-changes.result c.publish_changes-is_spent.new.changes
    c.requires.domain.most c.move_devices-changes.ensures.rest c.move_devices-changes.ensures.display
    (acted_first d0.tree (conditions_of d0.published) c.args.domain c.args.found.now.action)
    c.move_devices-changes.ensures.changes c.publish_changes-is_spent.ensures.display
    c.publish_changes-is_spent.ensures.changes)
    ∙ ap (λ (xs : List Shown). record c.args.out.now {
      datagrams = sent_after c.args.out.now.datagrams
          (shown_anew d0.tree d0.number d0.published.boot (display_of d0)
          (conditions_of c.publish_changes-is_spent.new.self.published) (Some c.args.domain));
      passed = xs;
    })
    (all_shown d0 c.move_devices-changes.new.display c.publish_changes-is_spent.new.self (grants_of c.args.kept.now)
    c.args.found.now.before mid c.args.domain c.move_devices-changes.result c.publish_changes-is_spent.new.changes
    c.requires.domain.most c.move_devices-changes.ensures.rest c.move_devices-changes.ensures.display
    (acted_first d0.tree (conditions_of d0.published) c.args.domain c.args.found.now.action)
    c.move_devices-changes.ensures.changes c.publish_changes-is_spent.ensures.display
    c.publish_changes-is_spent.ensures.changes)

pub returns-clause-spent : goal.returns-clause-spent
returns-clause-spent c =
    let d0 = c.args.display.now in
    let mid = acted_by d0.tree (conditions_of d0.published) c.args.domain c.args.found.now.action in
    c.publish_changes-is_spent.ensures.spent
    ∙ ap is_spent
    (all_shown d0 c.move_devices-changes.new.display c.publish_changes-is_spent.new.self (grants_of c.args.kept.now)
    c.args.found.now.before mid c.args.domain c.move_devices-changes.result c.publish_changes-is_spent.new.changes
    c.requires.domain.most c.move_devices-changes.ensures.rest c.move_devices-changes.ensures.display
    (acted_first d0.tree (conditions_of d0.published) c.args.domain c.args.found.now.action)
    c.move_devices-changes.ensures.changes c.publish_changes-is_spent.ensures.display
    c.publish_changes-is_spent.ensures.changes)

pub returns-clause-room : goal.returns-clause-room
returns-clause-room c unspent =
    let d0 = c.args.display.now in
    let d2 = c.publish_changes-is_spent.new.self in
    let mid = acted_by d0.tree (conditions_of d0.published) c.args.domain c.args.found.now.action in
    stirred_room d0 c.move_devices-changes.new.display d2 (grants_of c.args.kept.now) c.args.found.now.before mid
    c.args.domain c.move_devices-changes.result c.publish_changes-is_spent.new.changes
    c.requires.domain.most c.move_devices-changes.ensures.rest c.move_devices-changes.ensures.display
    (acted_first d0.tree (conditions_of d0.published) c.args.domain c.args.found.now.action)
    c.move_devices-changes.ensures.changes c.publish_changes-is_spent.ensures.display
    c.publish_changes-is_spent.ensures.changes
    d2.tree d2.number c.requires.room c.tree-tree.ensures.displayed.sound
    (sym c.publish_changes-is_spent.ensures.spent ∙ unspent)
