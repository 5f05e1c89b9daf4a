use Rattle.std.proofs.Common.{subst, sym}
use Rattle.smi_publish.specs.Published.{HasRoom}
use Rattle.std.specs.Prelude.{IfSome}
use Rattle.smi_publish.specs.Published.{conditions_of}
use Rattle.smi_protocol.specs.SoundDisplay.{IsShown}
use Rattle.smi_station_display.specs.Displayed.{Displayed}
use Rattle.smi_station_display.proofs.Displays.{evaluated_kept, change_shown}
use Rattle.smi_station_display.proofs.displayed.Displayed.follow.Goals as goal

pub invariant_of-self : goal.invariant_of-self
invariant_of-self c =
    evaluated_kept _ c.self.invariant c.evaluate.new.self c.args.domain c.states.result.now c.evaluate.ensures.boot
    c.evaluate.ensures.conditions
    (subst (λ (k : Displayed). HasRoom (conditions_of k.published) c.args.domain) (sym c.self.view_is) c.requires.room)

pub returns-clause-shown : goal.returns-clause-shown
returns-clause-shown c =
    let s : Displayed = record {
      tree = c.self.inside.tree.now;
      number = c.self.inside.number;
      published = c.evaluate.new.self;
      views = c.self.inside.view;
      named = c.self.inside.named.items;
      echoes =
          c.self.inside.echoes.items;
      watchers = c.self.inside.watchers.lists;
      place = c.self.inside.place;
      asks =
          c.self.inside.asks.items;
    } in
    subst (λ (k : Displayed). IfSome c.evaluate.result (IsShown k.tree)) c.self.view_is (
    subst (λ o. IfSome o (IsShown s.tree)) (sym c.evaluate.ensures.change)
    (change_shown s (evaluated_kept _ c.self.invariant c.evaluate.new.self c.args.domain c.states.result.now
    c.evaluate.ensures.boot c.evaluate.ensures.conditions
    (subst (λ (k : Displayed). HasRoom (conditions_of k.published) c.args.domain) (sym c.self.view_is)
    c.requires.room)) (conditions_of c.self.inside.publisher) c.self.inside.publisher.boot c.args.domain
    (sym c.evaluate.ensures.boot)))
