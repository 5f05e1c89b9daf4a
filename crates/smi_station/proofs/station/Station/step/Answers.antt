use Rattle.std.proofs.Common.{◌≡◌, true, false, subst}
use Rattle.smi_protocol.specs.Step.{after_event}
use Rattle.std.specs.Prelude.{OnOk}
use Rattle.smi_station.proofs.Stored.{step_stored}
use Rattle.smi_station.specs.Core.{IsStoredIn, Steps, number_of, station_of, tree_of}
use Rattle.smi_station_grants.specs.Leaving.{Leaves}
use Rattle.smi_station.specs.Readers.{Whole}
use Rattle.smi_station.specs.Wanting.{adds_by, wants_memory}
use Rattle.smi_station_grants.specs.Save.{IfMemory}
use Rattle.smi_station.proofs.station.Station.step.Goals as goal

pub returns-clause-step : goal.returns-clause-step
returns-clause-step g c =
    subst (λ (before : Whole g.row.S.Denot). before.core.is_stopped ≡ false
    → Steps before.core c.step.new.self (after_event (tree_of before.core) (number_of before.core)
    (station_of before.core) c.args.event) c.step.new.out c.step.result)
    c.self.view_is c.step.ensures.step

pub returns-clause-store : goal.returns-clause-store
returns-clause-store g c =
    subst (λ (before : Whole g.row.S.Denot). before.core.is_stopped ≡ false
    → Leaves g.S.Stable.is_honest g.S.Stable.is_open g.S.Stable.rows g.S.Stable.may_find g.S.Stable.saves
    g.S.Stable.failures g.S.Stable.doubts before.store c.step.new.store c.step.result
    (after_event (tree_of before.core) (number_of before.core) (station_of before.core) c.args.event).saved)
    c.self.view_is c.step.ensures.store

pub returns-clause-stored : goal.returns-clause-stored
returns-clause-stored g c =
    subst (λ (before : Whole g.row.S.Denot). before.core.is_stopped ≡ false → g.S.Stable.is_honest c.step.new.store
    → g.S.Stable.is_open before.store → IsStoredIn (g.S.Stable.rows before.store) before.core
    → OnOk c.step.result (IsStoredIn (g.S.Stable.rows c.step.new.store) c.step.new.self))
    c.self.view_is
    (λ runs honest opened stored.
    step_stored (g.S.Stable.is_open c.step.new.store) c.self.inside.core c.step.new.self c.args.event c.step.new.out
    c.step.result (g.S.Stable.rows c.self.inside.store) (g.S.Stable.rows c.step.new.store)
    c.tree-tree.ensures.lawful (c.step.ensures.step runs) ((c.step.ensures.store runs).saved honest opened) stored)

pub returns-clause-memory : goal.returns-clause-memory
returns-clause-memory g c =
    subst (λ (before : Whole g.row.S.Denot). before.core.is_stopped ≡ false
    → IfMemory c.step.result (wants_memory
    (after_event (tree_of before.core) (number_of before.core) (station_of before.core) c.args.event).saved
    (adds_by (tree_of before.core) (number_of before.core) (station_of before.core).display c.args.event) ≡ true))
    c.self.view_is c.step.ensures.memory
