use Rattle.std.proofs.Common.{◌≡◌, ◌∙◌, ℕ, Option, true, sym, subst, ap}
use Rattle.smi_grant.specs.declared.Shown.{Shown}
use Rattle.smi_protocol.specs.Watching.{is_watched}
use Rattle.smi_view.specs.Accepting.{acceptance, last_after, last_of}
use Rattle.smi_view.specs.declared.Acceptance.{Acceptance}
use Rattle.smi_station_display.specs.Displayed.{Displayed, display_of}
use Rattle.smi_station_display.proofs.Displays.{told_is}
use Rattle.smi_station_display.proofs.displayed.Displayed.state_comes.Goals as goal

pub returns-clause-display : goal.returns-clause-display
returns-clause-display c =
    let s : Displayed = record {
      tree = c.self.inside.tree.now;
      number = c.self.inside.number;
      published = c.self.inside.publisher;
      views = c.self.inside.view;
      named = c.self.inside.named.items;
      echoes =
          c.self.inside.echoes.items;
      watchers = c.self.inside.watchers.lists;
      place = c.self.inside.place;
      asks =
          c.self.inside.asks.items;
    } in
    let t = c.args.told in
    let watched : is_watched s.tree s.number (display_of s) t.object ≡ true =
    subst (λ (k : Displayed). is_watched k.tree k.number (display_of k) t.object ≡ true) (sym c.self.view_is)
    (sym c.is_watched.ensures ∙ c.if-not-is_watched.false) in
    let taken = c.accept.ensures.answer ∙ ap (λ b. acceptance b (last_of s.views t.object) c.args.echo t.version)
    c.self.invariant.one_boot in
    rw (← c.self.view_is)
    (ap (λ (f : ℕ → Option Shown). record (display_of s) { shown = f })
    (c.accept.ensures.last ∙ ap (λ (a : Acceptance). last_after (last_of s.views) a t) taken)
    ∙ told_is s.tree s.number s.published.boot (display_of s) c.args.from c.args.echo t
    (c.if-echo-boot.false ∙ c.boot-boot.ensures) watched)
