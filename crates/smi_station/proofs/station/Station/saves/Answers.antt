use Rattle.std.proofs.Common.{◌≡◌, subst}
use Rattle.std.specs.Prelude.{is_some}
use Rattle.smi_protocol.specs.Step.{after_event}
use Rattle.smi_station.specs.Core.{number_of, station_of, tree_of}
use Rattle.smi_station.specs.Readers.{Whole}
use Rattle.smi_station.proofs.station.Station.saves.Goals as goal

pub returns : goal.returns
returns g c =
    subst (λ (before : Whole g.row.S.Denot). c.saves.result
    ≡ is_some (after_event (tree_of before.core) (number_of before.core) (station_of before.core)
    c.args.event).saved) c.self.view_is c.saves.ensures
