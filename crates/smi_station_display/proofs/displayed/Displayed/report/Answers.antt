use Rattle.std.proofs.Common.{◌+◌, subst, sym}
use Rattle.smi_tree.specs.Lawful.{IsBetween}
use Rattle.smi_tree.specs.Lookups.{state_count}
use Rattle.smi_protocol.specs.SoundDisplay.{MayChange}
use Rattle.std.specs.Prelude.{IfSome}
use Rattle.smi_publish.specs.Published.{conditions_of}
use Rattle.smi_protocol.specs.SoundDisplay.{IsShown}
use Rattle.smi_station_display.specs.Displayed.{Displayed, display_of}
use Rattle.smi_station_display.proofs.Displays.{reported_kept, change_shown}
use Rattle.smi_station_display.proofs.displayed.Displayed.report.Goals as goal

pub invariant_of-self : goal.invariant_of-self
invariant_of-self c =
    reported_kept _ c.self.invariant c.report.new.self (c.domain_count.result + c.args.device) c.args.state
    c.report.ensures.boot c.report.ensures.conditions
    (subst (λ (k : Displayed). MayChange (display_of k)) (sym c.self.view_is) c.requires.room)
    (subst (λ (k : Displayed). IsBetween 1 (state_count k.tree) c.args.state) (sym c.self.view_is) c.requires.state)

pub returns-clause-shown : goal.returns-clause-shown
returns-clause-shown c =
    let s : Displayed = record {
      tree = c.self.inside.tree.now;
      number = c.self.inside.number;
      published = c.report.new.self;
      views = c.self.inside.view;
      named = c.self.inside.named.items;
      echoes =
          c.self.inside.echoes.items;
      watchers = c.self.inside.watchers.lists;
      place = c.self.inside.place;
      asks =
          c.self.inside.asks.items;
    } in
    subst (λ (k : Displayed). IfSome c.report.result (IsShown k.tree)) c.self.view_is (
    subst (λ o. IfSome o (IsShown s.tree)) (sym c.report.ensures.change)
    (change_shown s (reported_kept _ c.self.invariant c.report.new.self (c.domain_count.result + c.args.device)
    c.args.state c.report.ensures.boot c.report.ensures.conditions
    (subst (λ (k : Displayed). MayChange (display_of k)) (sym c.self.view_is) c.requires.room)
    (subst (λ (k : Displayed). IsBetween 1 (state_count k.tree) c.args.state) (sym c.self.view_is)
    c.requires.state)) (conditions_of c.self.inside.publisher) c.self.inside.publisher.boot
    (c.domain_count.result + c.args.device) (sym c.report.ensures.boot)))
