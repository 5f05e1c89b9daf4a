use Rattle.std.proofs.Common.{◌∙◌, sym, subst, ap}
use Rattle.std.specs.Prelude.{IfSome}
use Rattle.std.specs.List.{AllByRecursion}
use Rattle.smi_tree.specs.Hierarchy.{Hierarchy}
use Rattle.smi_protocol.specs.SoundDisplay.{IsShown}
use Rattle.smi_station_display.specs.Displayed.{display_of}
use Rattle.smi_station_display.specs.Members.{Listed, followed_by}
use Rattle.smi_station_display.proofs.Listing.{one_more_shown}
use Rattle.smi_station_display.proofs.displayed.Displayed.publish_changes.Goals.{in-Some, in-None}
use Rattle.smi_station_display.proofs.displayed.Displayed.publish_changes.Goals as goal

pub send_changes-requires : goal.send_changes-requires
send_changes-requires c =
    let h = c.args.self.now.tree in
    subst (λ (t : Hierarchy). AllByRecursion (IsShown t) c.as_slice.result.now) (sym c.follow.ensures.rest.tree)
    (subst (AllByRecursion (IsShown h)) (sym c.as_slice.ensures)
    (elim c.match-follow.branch [
      | in-Some w ↦
          subst (AllByRecursion (IsShown h)) (sym (w.changes-is ∙ w.push.ensures))
          (one_more_shown (IsShown h) c.args.changes.now w.in-Some.shown c.requires.shown
          (subst (λ o. IfSome o (IsShown h)) w.in-Some.is c.follow.ensures.shown))
      | in-None w ↦ subst (AllByRecursion (IsShown h)) (sym w.changes-is) c.requires.shown
    ]))

pub returns-clause-display : goal.returns-clause-display
returns-clause-display c =
    let s = c.args.self.now in
    c.follow.ensures.display
    ∙ ap (λ (m : Listed). record (display_of s) {
      conditions = followed_by s.tree c.args.before.now m
          (display_of s).conditions c.args.domain;
    }) c.members-after.ensures
