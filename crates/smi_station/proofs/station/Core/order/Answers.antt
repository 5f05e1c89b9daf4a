use Rattle.std.proofs.Common.{sym, subst}
use Rattle.smi_protocol.specs.Happening.{Happening}
use Rattle.smi_protocol.specs.Step.{after, ordered_or_reported}
use Rattle.smi_protocol.specs.declared.order.Order.{Order}
use Rattle.smi_station.specs.Core.{Steps, number_of, station_of, tree_of}
use Rattle.smi_station_grants.specs.Leaving.{Leaves}
use Rattle.smi_station.proofs.station.Core.order.Goals as goal

pub returns-in-Some-clause-step : goal.returns-in-Some-clause-step
returns-in-Some-clause-step g c =
    let now = c.args.self.now in
    subst (λ (what : Order). Steps now c.report.new.self
    (after (tree_of now) (number_of now) (station_of now) (ordered_or_reported c.args.operator what))
    c.report.new.out c.report.result) (sym c.in-Some.ensures.report) c.report.ensures.step

pub returns-in-None-clause-step : goal.returns-in-None-clause-step
returns-in-None-clause-step g c =
    let now = c.args.self.now in
    subst (λ (what : Happening). Steps now c.obey_or_refuse.new.self
    (after (tree_of now) (number_of now) (station_of now) what) c.obey_or_refuse.new.out c.obey_or_refuse.result)
    (sym (c.reported_in.ensures.other c.args.operator c.in-None.is)) c.obey_or_refuse.ensures.step

pub returns-in-None-clause-store : goal.returns-in-None-clause-store
returns-in-None-clause-store g c =
    let now = c.args.self.now in
    subst (λ (what : Happening). Leaves g.S.Stable.is_honest g.S.Stable.is_open g.S.Stable.rows g.S.Stable.may_find
    g.S.Stable.saves g.S.Stable.failures g.S.Stable.doubts c.args.store.now c.obey_or_refuse.new.store
    c.obey_or_refuse.result
    (after (tree_of now) (number_of now) (station_of now) what).saved)
    (sym (c.reported_in.ensures.other c.args.operator c.in-None.is)) c.obey_or_refuse.ensures.store
