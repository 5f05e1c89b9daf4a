use Rattle.std.proofs.Common.{◌∙◌, ℕ, List, Option, None, map, sym, subst, ap, length, get_or}
use Rattle.std.proofs.Math.ListN.{set}
use Rattle.std.proofs.lemmas.List.{set-get_or}
use Rattle.smi_station_display.specs.Displayed.{Displayed, IsDisplayed}
use Rattle.smi_station_display.specs.Listening.{forgotten}
use Rattle.smi_station_display.proofs.Displays.{forgotten_kept}
use Rattle.smi_station_display.proofs.Listens.{forgets, keeps}
use Rattle.smi_station_display.proofs.Listing.{none_yet, all_now, changed_next, unchanged_next, in_place_of}
use Rattle.smi_station_display.proofs.displayed.Displayed.forget_questions.Goals.{then-eq, else-eq}
use Rattle.smi_station_display.proofs.displayed.Displayed.forget_questions.Goals as goal

pub loop-asked-init : goal.loop-asked-init
loop-asked-init c = none_yet (forgotten c.args.domain) c.deref_mut-asked-items.result.now

pub loop-asked-preserved : goal.loop-asked-preserved
loop-asked-preserved c =
    let f = forgotten c.args.domain in
    let xs = c.deref_mut-asked-items.result.now in
    let i = c.loop-asked.asked-index in
    let so = c.loop-asked.invariant in
    elim c.if-eq.branch [
      | then-eq w ↦
          w.asked-items-is
          ∙ ap (λ (ys : List (Option ℕ)). set ys i None) so
          ∙ changed_next f xs i None None c.loop-asked-test.true
          (ap (λ (ys : List (Option ℕ)). f (get_or ys i None)) (sym so)
          ∙ forgets (get_or c.loop-asked.asked-items i None) c.args.domain (sym c.eq.ensures ∙ w.if-eq.true))
      | else-eq w ↦
          w.asked-items-is
          ∙ set-get_or c.loop-asked.asked-items i None
          ∙ so
          ∙ unchanged_next f xs i None c.loop-asked-test.true
          (ap (λ (ys : List (Option ℕ)). f (get_or ys i None)) (sym so)
          ∙ keeps (get_or c.loop-asked.asked-items i None) c.args.domain (sym c.eq.ensures ∙ w.if-eq.false)
          ∙ ap (λ (ys : List (Option ℕ)). get_or ys i None) so)
    ]

pub invariant_of-self : goal.invariant_of-self
invariant_of-self c =
    let f = forgotten c.args.domain in
    let was = c.deref_mut-asked-items.ensures.value in
    let same = c.loop-asked.auto.asked-items ∙ ap length was in
    let whole = in_place_of c.self.inside.asks.items c.loop-asked.asked-items c.self.inside.asks.len same
    (sym (ap length was) ∙ c.deref_mut-asked-items.ensures.len) in
    let list = c.loop-asked.invariant ∙ all_now f c.deref_mut-asked-items.result.now c.loop-asked.asked-index
    c.loop-asked-test.false ∙ ap (map f) was in
    subst (λ (xs : List (Option ℕ)). IsDisplayed
    (record {
      tree = c.self.inside.tree.now;
      number = c.self.inside.number;
      published = c.self.inside.publisher;
      views = c.self.inside.view;
      named = c.self.inside.named.items;
      echoes = c.self.inside.echoes.items;
      watchers =
          c.self.inside.watchers.lists;
      place = c.self.inside.place;
      asks = xs;
    })) (sym (whole ∙ list))
    (forgotten_kept _ c.self.invariant c.args.domain)

pub returns : goal.returns
returns c =
    let f = forgotten c.args.domain in
    let was = c.deref_mut-asked-items.ensures.value in
    let same = c.loop-asked.auto.asked-items ∙ ap length was in
    let whole = in_place_of c.self.inside.asks.items c.loop-asked.asked-items c.self.inside.asks.len same
    (sym (ap length was) ∙ c.deref_mut-asked-items.ensures.len) in
    let list = c.loop-asked.invariant ∙ all_now f c.deref_mut-asked-items.result.now c.loop-asked.asked-index
    c.loop-asked-test.false ∙ ap (map f) was in
    let with_asks : List (Option ℕ) → Displayed = λ xs.
    record {
      tree = c.self.inside.tree.now;
      number = c.self.inside.number;
      published = c.self.inside.publisher;
      views = c.self.inside.view;
      named = c.self.inside.named.items;
      echoes = c.self.inside.echoes.items;
      watchers =
          c.self.inside.watchers.lists;
      place = c.self.inside.place;
      asks = xs;
    } in
    rw (← c.self.view_is) (ap with_asks (whole ∙ list))
