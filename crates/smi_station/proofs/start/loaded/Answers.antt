use Rattle.smi_station.proofs.Started.{opens_begun, opens_kept}
use Rattle.smi_station.proofs.start.loaded.Goals as goal

pub returns-in-Ok-clause-opens : goal.returns-in-Ok-clause-opens
returns-in-Ok-clause-opens g c = λ honest.
    opens_begun c.args.tree.now c.args.number (g.S.Stable.rows c.args.store.now) c.in-Ok.kept c.with_display.result
    (c.in-Ok.ensures.opens honest) c.with_display.ensures.station c.with_display.ensures.fault

pub returns-in-Ok-clause-begins : goal.returns-in-Ok-clause-begins
returns-in-Ok-clause-begins g c = λ honest.
    opens_kept c.args.tree.now c.args.number (g.S.Stable.rows c.args.store.now) c.in-Ok.kept c.with_display.result
    (c.in-Ok.ensures.opens honest) c.with_display.ensures.kept
