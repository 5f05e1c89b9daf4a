use Rattle.std.proofs.Common.{subst, sym}
use Rattle.smi_protocol.specs.SoundDisplay.{MayChange}
use Rattle.std.specs.List.{AllByRecursion}
use Rattle.smi_publish.specs.Published.{conditions_of}
use Rattle.smi_publish.specs.Publishing.{device_objects}
use Rattle.smi_protocol.specs.SoundDisplay.{IsShown}
use Rattle.smi_station_display.specs.Displayed.{Displayed, display_of}
use Rattle.smi_station_display.proofs.Displays.{acted_kept, changes_shown}
use Rattle.smi_station_display.proofs.displayed.Displayed.act.Goals as goal

pub invariant_of-self : goal.invariant_of-self
invariant_of-self c =
    acted_kept _ c.self.invariant c.run_action.new.self c.args.domain c.args.action c.run_action.ensures.boot
    c.run_action.ensures.conditions
    (subst (λ (k : Displayed). MayChange (display_of k)) (sym c.self.view_is) c.requires.room)

pub returns-clause-shown : goal.returns-clause-shown
returns-clause-shown c =
    let s : Displayed = record {
      tree = c.self.inside.tree.now;
      number = c.self.inside.number;
      published = c.run_action.new.self;
      views = c.self.inside.view;
      named = c.self.inside.named.items;
      echoes =
          c.self.inside.echoes.items;
      watchers = c.self.inside.watchers.lists;
      place = c.self.inside.place;
      asks =
          c.self.inside.asks.items;
    } in
    subst (λ (k : Displayed). AllByRecursion (IsShown k.tree) c.run_action.result) c.self.view_is (
    subst (AllByRecursion (IsShown s.tree)) (sym c.run_action.ensures.changes)
    (changes_shown s (acted_kept _ c.self.invariant c.run_action.new.self c.args.domain c.args.action
    c.run_action.ensures.boot c.run_action.ensures.conditions
    (subst (λ (k : Displayed). MayChange (display_of k)) (sym c.self.view_is) c.requires.room))
    (conditions_of c.self.inside.publisher) c.self.inside.publisher.boot (device_objects s.tree c.args.domain)
    (sym c.run_action.ensures.boot)))
