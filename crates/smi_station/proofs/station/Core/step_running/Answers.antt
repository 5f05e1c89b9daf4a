use Rattle.std.proofs.Common.{sym, subst}
use Rattle.smi_protocol.specs.Step.{after_event}
use Rattle.smi_protocol.specs.declared.event.Event.{Event}
use Rattle.smi_station.specs.Core.{Core, Steps, number_of, station_of, tree_of}
use Rattle.smi_tree.specs.Lawful.{IsTree}
use Rattle.smi_protocol.specs.Tidy.{IsTidy}
use Rattle.smi_station_grants.specs.Leaving.{Leaves}
use Rattle.smi_station.proofs.Steps.{steps_may}
use Rattle.smi_station.proofs.station.Core.step_running.Goals as goal

pub returns-in-Datagram-clause-step : goal.returns-in-Datagram-clause-step
returns-in-Datagram-clause-step g c =
    let now = c.args.self.now in
    subst (λ (e : Event). Steps now c.read.new.self (after_event (tree_of now) (number_of now) (station_of now) e)
    c.read.new.out c.read.result) (sym c.in-Datagram.is) c.read.ensures.step

pub returns-in-Order-clause-step : goal.returns-in-Order-clause-step
returns-in-Order-clause-step g c =
    let now = c.args.self.now in
    subst (λ (e : Event). Steps now c.order.new.self (after_event (tree_of now) (number_of now) (station_of now) e)
    c.order.new.out c.order.result) (sym c.in-Order.is) c.order.ensures.step

pub returns-in-Order-clause-store : goal.returns-in-Order-clause-store
returns-in-Order-clause-store g c =
    let now = c.args.self.now in
    subst (λ (e : Event). Leaves g.S.Stable.is_honest g.S.Stable.is_open g.S.Stable.rows g.S.Stable.may_find
    g.S.Stable.saves g.S.Stable.failures g.S.Stable.doubts c.args.store.now c.order.new.store c.order.result
    (after_event (tree_of now) (number_of now) (station_of now) e).saved)
    (sym c.in-Order.is) c.order.ensures.store

pub returns-in-Report-clause-step : goal.returns-in-Report-clause-step
returns-in-Report-clause-step g c =
    let now = c.args.self.now in
    subst (λ (e : Event). Steps now c.report.new.self (after_event (tree_of now) (number_of now) (station_of now) e)
    c.report.new.out c.report.result) (sym c.in-Report.is) c.report.ensures.step

pub returns-in-Datagram-clause-may_send : goal.returns-in-Datagram-clause-may_send
returns-in-Datagram-clause-may_send g c =
    let now = c.args.self.now in
    steps_may now c.read.new.self c.args.event c.read.new.out c.read.result
    (subst (λ (x : Core). IsTree (tree_of x)) c.self.view_is c.tree-tree.ensures.kept.tree)
    (subst (λ (x : Core). IsTidy (tree_of x) (station_of x).display) c.self.view_is c.self.invariant.tidy)
    (subst (λ (e : Event). Steps now c.read.new.self (after_event (tree_of now) (number_of now) (station_of now) e)
    c.read.new.out c.read.result) (sym c.in-Datagram.is) c.read.ensures.step)

pub returns-in-Order-clause-may_send : goal.returns-in-Order-clause-may_send
returns-in-Order-clause-may_send g c =
    let now = c.args.self.now in
    steps_may now c.order.new.self c.args.event c.order.new.out c.order.result
    (subst (λ (x : Core). IsTree (tree_of x)) c.self.view_is c.tree-tree.ensures.kept.tree)
    (subst (λ (x : Core). IsTidy (tree_of x) (station_of x).display) c.self.view_is c.self.invariant.tidy)
    (subst (λ (e : Event). Steps now c.order.new.self (after_event (tree_of now) (number_of now) (station_of now) e)
    c.order.new.out c.order.result) (sym c.in-Order.is) c.order.ensures.step)

pub returns-in-Report-clause-may_send : goal.returns-in-Report-clause-may_send
returns-in-Report-clause-may_send g c =
    let now = c.args.self.now in
    steps_may now c.report.new.self c.args.event c.report.new.out c.report.result
    (subst (λ (x : Core). IsTree (tree_of x)) c.self.view_is c.tree-tree.ensures.kept.tree)
    (subst (λ (x : Core). IsTidy (tree_of x) (station_of x).display) c.self.view_is c.self.invariant.tidy)
    (subst (λ (e : Event). Steps now c.report.new.self (after_event (tree_of now) (number_of now) (station_of now) e)
    c.report.new.out c.report.result) (sym c.in-Report.is) c.report.ensures.step)

pub returns-in-Tick-clause-may_send : goal.returns-in-Tick-clause-may_send
returns-in-Tick-clause-may_send g c =
    let now = c.args.self.now in
    steps_may now c.tick.new.self c.args.event c.tick.new.out c.tick.result
    (subst (λ (x : Core). IsTree (tree_of x)) c.self.view_is c.tree-tree.ensures.kept.tree)
    (subst (λ (x : Core). IsTidy (tree_of x) (station_of x).display) c.self.view_is c.self.invariant.tidy)
    (subst (λ (e : Event). Steps now c.tick.new.self (after_event (tree_of now) (number_of now) (station_of now) e)
    c.tick.new.out c.tick.result) (sym c.in-Tick.is) c.tick.ensures.step)
