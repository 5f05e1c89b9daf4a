use Rattle.std.proofs.Common.{Ok}
use Rattle.smi_station.proofs.Stored.{start_stored}
use Rattle.smi_station.proofs.station.Station.open.Goals as goal

pub returns-in-Ok-clause-stored : goal.returns-in-Ok-clause-stored
returns-in-Ok-clause-stored g c = λ honest.
    start_stored c.args.tree.now c.args.number (g.S.Stable.is_open c.start.new.store) (Ok c.in-Ok.core)
    (g.S.Stable.rows c.args.store) (g.S.Stable.rows c.start.new.store)
    (c.in-Ok.ensures.opens honest) c.in-Ok.ensures.of (c.in-Ok.ensures.saved honest)
