use Rattle.std.proofs.Common.{◌≡◌, ◌∙◌, [], refl, sym, subst, ap, length, None, true, false, arith}
use Rattle.std.specs.Prelude.{replicate}
use Rattle.std.proofs.lemmas.List.{length-replicate}
use Rattle.smi_message.specs.Message.{is_boot}
use Rattle.smi_protocol.specs.SoundDisplay.{IsDisplay}
use Rattle.smi_protocol.proofs.SoundDisplay.{first_sound}
use Rattle.smi_protocol.specs.Ticking.{first_place}
use Rattle.smi_station_display.proofs.Displays.{first_is}
use Rattle.smi_station_display.proofs.displayed.Displayed.new.Goals as goal

pub returns-clause-display : goal.returns-clause-display
returns-clause-display c =
    first_is (record {
      tree = c.args.tree.now;
      number = c.args.number;
      published = c.in_ok-publisher.publisher;
      views = c.in_ok-view.view;
      named = c.loop.named.items;
      echoes = c.loop-2.echoes.items;
      watchers =
          c.in_ok-watchers.watchers.lists;
      place = first_place;
      asks = c.loop-3.asks.items;
    }) c.args.tree.now
    c.args.number c.loop.counter c.loop-2.counter c.loop-3.counter c.in_ok-publisher.ensures.opened
    c.in_ok-view.ensures.last
    c.loop.invariant c.loop-2.invariant (c.in_ok-watchers.ensures.lists
    ∙ ap (λ n. replicate n []) c.object_count-objects.ensures) refl c.loop-3.invariant

pub invariant_of-result : goal.invariant_of-result
invariant_of-result c = record {
  tree = c.station_count-end.ensures.tree;
  number = record { least = c.requires.least; most = c.requires.most };
  boot = subst (λ b. is_boot b ≡ true) (sym c.in_ok-publisher.ensures.boot) c.requires.boot;
  one_boot = c.in_ok-view.ensures.boot ∙ sym c.in_ok-publisher.ensures.boot;
  views = c.in_ok-view.ensures.objects ∙ c.object_count-objects.ensures;
  named =
      let long = ap length c.loop.invariant ∙ length-replicate c.loop.counter false in
      omega (arith, long, c.loop-test.false, c.loop.auto.counter-end, c.object_count-objects.ensures);
  echoes =
      let long = ap length c.loop-2.invariant ∙ length-replicate c.loop-2.counter 0 in
      omega (arith, long, c.loop-2-test.false, c.loop-2.auto.counter-end, c.station_count-end.ensures.value);
  asks =
      let long = ap length c.loop-3.invariant ∙ length-replicate c.loop-3.counter None in
      omega (arith, long, c.loop-3-test.false, c.loop-3.auto.counter-end, c.operator_count-end.ensures.value);
  sound =
      subst (IsDisplay c.args.tree.now c.args.number)
      (sym (first_is
      (record {
        tree = c.args.tree.now;
        number = c.args.number;
        published = c.in_ok-publisher.publisher;
        views = c.in_ok-view.view;
        named = c.loop.named.items;
        echoes = c.loop-2.echoes.items;
        watchers =
            c.in_ok-watchers.watchers.lists;
        place = first_place;
        asks = c.loop-3.asks.items;
      }) c.args.tree.now
      c.args.number c.loop.counter c.loop-2.counter c.loop-3.counter c.in_ok-publisher.ensures.opened
      c.in_ok-view.ensures.last
      c.loop.invariant c.loop-2.invariant (c.in_ok-watchers.ensures.lists
      ∙ ap (λ n. replicate n []) c.object_count-objects.ensures) refl c.loop-3.invariant))
      (first_sound c.args.tree.now c.station_count-end.ensures.tree c.args.number);
}
