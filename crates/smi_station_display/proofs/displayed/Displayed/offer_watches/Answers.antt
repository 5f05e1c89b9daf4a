use Rattle.std.proofs.Common.{◌∙◌, ◌+◌, ◌-◌, ap, sym}
use Rattle.std.specs.List.{flat_map, range_with_len}
use Rattle.smi_protocol.specs.Ticking.{owed_watch}
use Rattle.smi_station_display.specs.Displayed.{display_of}
use Rattle.smi_station_display.specs.Sweeping.{Sweeping, offered, sweeping}
use Rattle.smi_station_display.proofs.Sweeps.{range_offered}
use Rattle.smi_station_display.proofs.displayed.Displayed.offer_watches.Goals as goal

pub loop-place-preserved : goal.loop-place-preserved
loop-place-preserved c =
    let f = owed_watch c.args.self.now.tree c.args.self.now.number c.args.self.now.published.boot
    (display_of c.args.self.now) in
    let n = c.object_count-place-end.result in
    let i = c.loop-place.place in
    ap (λ (s : Sweeping). offered s (flat_map f (range_with_len (i + 1 + 1) (n - (i + 1))))) c.offer_watch.ensures
    ∙ sym (range_offered (sweeping c.loop-place.sweep c.loop-place.out) f n i c.loop-place-test.true)
    ∙ c.loop-place.invariant
