use Rattle.std.proofs.Common.{ap, sym, ◌∙◌, subst}
use Rattle.std.specs.Prelude.{Option}
use Rattle.std.specs.List.{flat_map}
use Rattle.smi_grant.specs.declared.Shown.{Shown}
use Rattle.smi_tree.specs.Hierarchy.{Hierarchy}
use Rattle.smi_tree.specs.Lawful.{IsBetween}
use Rattle.smi_tree.specs.Lookups.{state_count}
use Rattle.smi_station_output.specs.Out.{sent_after}
use Rattle.smi_protocol.specs.Messages.{if_any}
use Rattle.smi_protocol.specs.Showing.{shown_to_all}
use Rattle.smi_protocol.specs.Step.{Out}
use Rattle.smi_station.proofs.Reported.{reported_out, reported_room, reported_station, reported_unit, state_there}
use Rattle.smi_station.proofs.reports.report.Goals as goal

pub report-requires-clause-state : goal.report-requires-clause-state
report-requires-clause-state c =
    let k = c.args.kept.now in
    subst (λ (h : Hierarchy). IsBetween 1 (state_count h) c.args.state) (sym c.requires.halves.tree)
    (state_there k.tree k.number c.args.device c.args.state c.requires.here).2

pub publish_changes-is_spent-requires-clause-room : goal.publish_changes-is_spent-requires-clause-room
publish_changes-is_spent-requires-clause-room c =
    reported_unit c.args.kept.now c.args.display.now c.report.new.self c.args.device c.args.state
    c.domain_of-domain.result
    c.requires.halves c.domain_of-domain.ensures.domain.most c.domain_of-domain.ensures.among
    c.report.ensures.display c.requires.room

pub returns-clause-station : goal.returns-clause-station
returns-clause-station c =
    reported_station
    c.args.kept.now c.args.display.now c.report.new.self c.publish_changes-is_spent.new.self c.args.device c.args.state
    c.domain_of-domain.result c.members-before.result c.changes_of-changes.result c.publish_changes-is_spent.new.changes
    c.requires.halves c.domain_of-domain.ensures.domain.most c.domain_of-domain.ensures.among
    c.domain_of-domain.ensures.of c.members-before.ensures c.report.ensures.rest c.report.ensures.display
    (c.changes_of-changes.ensures ∙ ap (λ (o : Option Shown). if_any o) c.report.ensures.change)
    c.publish_changes-is_spent.ensures.display c.publish_changes-is_spent.ensures.changes
    c.publish_changes-is_spent.result c.publish_changes-is_spent.ensures.spent

pub returns-clause-out : goal.returns-clause-out
returns-clause-out c =
    let d1 = c.report.new.self in
    reported_out
    c.args.kept.now c.args.display.now c.report.new.self c.publish_changes-is_spent.new.self c.args.device c.args.state
    c.domain_of-domain.result c.members-before.result c.changes_of-changes.result c.publish_changes-is_spent.new.changes
    c.requires.halves c.domain_of-domain.ensures.domain.most c.domain_of-domain.ensures.among
    c.domain_of-domain.ensures.of c.members-before.ensures c.report.ensures.rest c.report.ensures.display
    (c.changes_of-changes.ensures ∙ ap (λ (o : Option Shown). if_any o) c.report.ensures.change)
    c.publish_changes-is_spent.ensures.display c.publish_changes-is_spent.ensures.changes
    c.set_transitions.new.self
    (c.set_transitions.ensures
    ∙ ap (λ (o : Out). record o { passed = c.publish_changes-is_spent.new.changes })
    c.publish_changes-is_spent.ensures.sent
    ∙ ap (λ (o : Out). record o {
      datagrams = sent_after o.datagrams
          (flat_map (shown_to_all d1.tree d1.number d1.watchers) c.publish_changes-is_spent.new.changes);
      passed = c.publish_changes-is_spent.new.changes;
    }) c.requires.empty)

pub returns-clause-room : goal.returns-clause-room
returns-clause-room c unspent =
    let d2 = c.publish_changes-is_spent.new.self in
    reported_room
    c.args.kept.now c.args.display.now c.report.new.self c.publish_changes-is_spent.new.self c.args.device c.args.state
    c.domain_of-domain.result c.members-before.result c.changes_of-changes.result c.publish_changes-is_spent.new.changes
    c.requires.halves c.domain_of-domain.ensures.domain.most c.domain_of-domain.ensures.among
    c.domain_of-domain.ensures.of c.members-before.ensures c.report.ensures.rest c.report.ensures.display
    (c.changes_of-changes.ensures ∙ ap (λ (o : Option Shown). if_any o) c.report.ensures.change)
    c.publish_changes-is_spent.ensures.display c.publish_changes-is_spent.ensures.changes
    d2.tree d2.number c.requires.room c.tree-tree.ensures.displayed.sound
    (sym c.publish_changes-is_spent.ensures.spent ∙ unspent)
