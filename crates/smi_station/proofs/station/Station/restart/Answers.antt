use Rattle.std.proofs.Common.{subst}
use Rattle.smi_station_grants.specs.Stored.{Restarts}
use Rattle.smi_station.specs.Core.{IsStoredIn, begun, number_of, station_of, tree_of}
use Rattle.smi_station.specs.Readers.{Whole, restarted}
use Rattle.smi_station.proofs.station.Station.restart.Goals as goal

pub returns-clause-anew : goal.returns-clause-anew
returns-clause-anew g c =
    subst (λ (before : Whole g.row.S.Denot). g.S.Stable.is_honest c.restart.new.store
    → g.S.Stable.is_open before.store → IsStoredIn (g.S.Stable.rows before.store) before.core
    → Restarts (tree_of before.core) (number_of before.core) (station_of before.core).grants
    (begun (restarted c.restart.new.self c.restart.result)))
    c.self.view_is c.restart.ensures.anew
