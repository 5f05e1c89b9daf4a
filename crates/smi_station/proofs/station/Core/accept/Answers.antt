use Rattle.std.proofs.Common.{◌≡◌, false}
use Rattle.smi_protocol.specs.Happening.{Comes}
use Rattle.smi_protocol.specs.Step.{accepted}
use Rattle.smi_station.specs.Core.{Core, Steps, core_with, number_of, station_of, station_with, tree_of}
use Rattle.smi_station_grants.specs.Leaving.{Leaves}
use Rattle.smi_station.proofs.Steps.{made_core, made_steps, made_tidy, running, stands}
use Rattle.smi_station_grants.specs.Save.{IfMemory}
use Rattle.std.specs.Prelude.{true}
use Rattle.smi_station_display.specs.Displayed.{display_of}
use Rattle.smi_station.specs.Wanting.{adds, wants_memory}
use Rattle.smi_station.proofs.Wanted.{for_entry, for_row}
use Rattle.smi_station.proofs.station.Core.accept.Goals as goal

pub invariant_of-self : goal.invariant_of-self
invariant_of-self g c =
    let i = c.self.inside in
    let runs = running i.kept i.display i.is_stopped c.args.self.now c.self.view_is c.requires.runs in
    made_core i.kept c.hear.new.kept i.display c.hear.new.display c.hear.new.is_stopped c.hear.result
    c.self.invariant.halves (c.self.invariant.room runs) c.hear.ensures.halves c.hear.ensures.room
    c.hear.ensures.unchanged
    (made_tidy i.kept c.hear.new.kept i.display c.hear.new.display c.hear.new.is_stopped (Comes c.args.datagram.now)
    c.hear.result c.hear.ensures.station c.hear.ensures.same c.hear.ensures.unchanged c.self.invariant.tidy)

pub returns-in-None-clause-step : goal.returns-in-None-clause-step
returns-in-None-clause-step g c =
    let i = c.self.inside in
    stands i.kept i.display i.is_stopped c.args.self.now c.self.view_is c.requires.runs
    (λ (before : Core). Steps before (core_with c.hear.new.kept c.hear.new.display c.hear.new.is_stopped)
    (accepted (tree_of before) (number_of before) (station_of before) (Comes c.args.datagram.now)) c.hear.new.out
    c.hear.result)
    (made_steps _ i.kept c.hear.new.kept i.display c.hear.new.display c.hear.new.is_stopped
    (accepted i.kept.tree i.kept.number (station_with i.kept i.display false) (Comes c.args.datagram.now))
    c.hear.new.out c.hear.result
    c.hear.ensures.station c.hear.ensures.heard c.hear.ensures.out c.hear.ensures.same c.hear.ensures.unchanged
    c.hear.ensures.cleared)

pub returns-in-None-clause-store : goal.returns-in-None-clause-store
returns-in-None-clause-store g c =
    let i = c.self.inside in
    stands i.kept i.display i.is_stopped c.args.self.now c.self.view_is c.requires.runs
    (λ (before : Core). Leaves g.S.Stable.is_honest g.S.Stable.is_open g.S.Stable.rows g.S.Stable.may_find
    g.S.Stable.saves g.S.Stable.failures g.S.Stable.doubts c.args.store.now c.hear.new.store c.hear.result
    (accepted (tree_of before) (number_of before) (station_of before) (Comes c.args.datagram.now)).saved)
    c.hear.ensures.store

pub returns-in-None-clause-memory : goal.returns-in-None-clause-memory
returns-in-None-clause-memory g c =
    let i = c.self.inside in
    let m = c.args.datagram.now in
    stands i.kept i.display i.is_stopped c.args.self.now c.self.view_is c.requires.runs
    (λ (before : Core). IfMemory c.hear.result (wants_memory
    (accepted (tree_of before) (number_of before) (station_of before) (Comes m)).saved
    (adds (station_of before).display m.from m.body) ≡ true))
    (for_row c.hear.result
    (accepted i.kept.tree i.kept.number (station_with i.kept i.display false) (Comes m)).saved
    (adds (display_of i.display) m.from m.body) c.hear.ensures.memory)

pub returns-in-Some-clause-memory : goal.returns-in-Some-clause-memory
returns-in-Some-clause-memory g c =
    let now = c.args.self.now in
    let m = c.args.datagram.now in
    for_entry c.watch.result (accepted (tree_of now) (number_of now) (station_of now) (Comes m)).saved
    (adds (station_of now).display m.from m.body) c.watch.ensures.memory
