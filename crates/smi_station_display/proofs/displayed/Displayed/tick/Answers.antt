use Rattle.std.proofs.Common.{◌≡◌, ◌∙◌, sym, subst, ap}
use Rattle.smi_station_grants.specs.GrantTable.{grants_of}
use Rattle.smi_protocol.specs.Ticking.{all_owed, first_place, most_sent, tick_noticed}
use Rattle.smi_protocol.specs.declared.ResendCursor.{ResendCursor}
use Rattle.smi_protocol.specs.Display.{Display}
use Rattle.smi_protocol.specs.Step.{Out}
use Rattle.smi_station_output.specs.Out.{with_notice}
use Rattle.smi_station_display.specs.Displayed.{Displayed, display_of}
use Rattle.smi_station_display.specs.Sweeping.{Resend, Sweeping, offered, place_after, sweeping}
use Rattle.smi_station_display.proofs.Sweeps.{sweeps}
use Rattle.smi_station_display.proofs.displayed.Displayed.tick.Goals as goal

pub returns-clause-display : goal.returns-clause-display
returns-clause-display c =
    let s : Displayed = record {
      tree = c.self.inside.tree.now;
      number = c.self.inside.number;
      published = c.self.inside.publisher;
      views = c.self.inside.view;
      named = c.self.inside.named.items;
      echoes =
          c.self.inside.echoes.items;
      watchers = c.self.inside.watchers.lists;
      place = c.self.inside.place;
      asks =
          c.self.inside.asks.items;
    } in
    let due = all_owed s.tree s.number (grants_of c.args.kept.now) (display_of s) in
    let swept = sweeps s.tree s.place first_place most_sent c.args.out.now due in
    let all = subst (λ (k : Displayed). sweeping c.offer_all.new.sweep c.offer_all.new.out
    ≡ offered (sweeping c.from-sweep.result c.args.out.now)
    (all_owed k.tree k.number (grants_of c.args.kept.now) (display_of k))) (sym c.self.view_is) c.offer_all.ensures
    ∙ ap (λ (w : Resend). offered (sweeping w c.args.out.now) due) c.from-sweep.ensures in
    let g = grants_of c.args.kept.now in
    let at_s : ◌≡◌ {A = Display} (record (display_of s) { place = c.place_after-self-inside.result })
    (tick_noticed s.tree s.number g (display_of s)).display =
    ap (λ (p : ResendCursor). record (display_of s) { place = p })
    (c.place_after-self-inside.ensures ∙ ap (λ (w : Sweeping). place_after s.tree w.sweep) all ∙ swept.place) in
    subst (λ (k : Displayed). ◌≡◌ {A = Display} (record (display_of s) { place = c.place_after-self-inside.result })
    (tick_noticed k.tree k.number g (display_of k)).display) c.self.view_is at_s

pub returns-clause-sent : goal.returns-clause-sent
returns-clause-sent c =
    let s : Displayed = record {
      tree = c.self.inside.tree.now;
      number = c.self.inside.number;
      published = c.self.inside.publisher;
      views = c.self.inside.view;
      named = c.self.inside.named.items;
      echoes =
          c.self.inside.echoes.items;
      watchers = c.self.inside.watchers.lists;
      place = c.self.inside.place;
      asks =
          c.self.inside.asks.items;
    } in
    let due = all_owed s.tree s.number (grants_of c.args.kept.now) (display_of s) in
    let swept = sweeps s.tree s.place first_place most_sent c.args.out.now due in
    let all = subst (λ (k : Displayed). sweeping c.offer_all.new.sweep c.offer_all.new.out
    ≡ offered (sweeping c.from-sweep.result c.args.out.now)
    (all_owed k.tree k.number (grants_of c.args.kept.now) (display_of k))) (sym c.self.view_is) c.offer_all.ensures
    ∙ ap (λ (w : Resend). offered (sweeping w c.args.out.now) due) c.from-sweep.ensures in
    let g = grants_of c.args.kept.now in
    let at_s : ◌≡◌ {A = Out} c.offer_all.new.out
    (with_notice c.args.out.now (tick_noticed s.tree s.number g (display_of s))) =
    ap (λ (w : Sweeping). w.out) all ∙ swept.out in
    subst (λ (k : Displayed). ◌≡◌ {A = Out} c.offer_all.new.out
    (with_notice c.args.out.now (tick_noticed k.tree k.number g (display_of k)))) c.self.view_is at_s
