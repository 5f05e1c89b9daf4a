use Rattle.std.proofs.Common.{◌≡◌, refl, subst}
use Rattle.std.specs.Prelude.{is_some}
use Rattle.smi_protocol.specs.Step.{after_event}
use Rattle.smi_station.specs.Core.{Core, core_with, number_of, station_of, tree_of}
use Rattle.smi_station.proofs.station.Core.saves.Goals as goal

pub returns : goal.returns
returns c =
    subst (λ (before : Core). c.is_saved.result
    ≡ is_some (after_event (tree_of before) (number_of before) (station_of before) c.args.event).saved) c.self.view_is
    (c.is_saved.ensures (station_of (core_with c.self.inside.kept c.self.inside.display c.self.inside.is_stopped)) refl)
