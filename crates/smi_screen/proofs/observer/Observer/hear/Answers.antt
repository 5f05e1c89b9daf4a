use Rattle.std.proofs.Common.{Bool, subst, sym, take}
use Rattle.smi_station.specs.Readers.{Whole}
use Rattle.smi_node.specs.Carried.{StepsTo}
use Rattle.smi_node.specs.Linked.{shown_by}
use Rattle.smi_screen.specs.Looking.{Looks, View, has_stopped, view}
use Rattle.smi_screen.proofs.Asked.{delivery_asks}
use Rattle.smi_screen.proofs.Looks.{delivered_one, failed_once, waited_once}
use Rattle.smi_screen.proofs.observer.Observer.hear.Goals as goal

pub returns-in-Received-clause-looks : goal.returns-in-Received-clause-looks
returns-in-Received-clause-looks g c =
    let s = g.S.Stable in
    let steps = StepsTo {S = g.row.S.Denot} s.is_honest s.is_open s.rows s.may_find s.saves s.failures s.doubts in
    let shows = shown_by g.L.DatagramLink.received g.L.DatagramLink.handed g.L.DatagramLink.failures
    g.L.DatagramLink.receives in
    let before : View (Whole g.row.S.Denot) = view c.args.station.now (shows c.args.link.now) c.args.self.now.picture in
    let after : View (Whole g.row.S.Denot)
    = view c.deliver-delivered.new.station (shows c.deliver-delivered.new.link) c.deliver-delivered.new.self.picture in
    let r = c.in-Received.ensures in
    subst (λ (stopped : Bool). Looks steps c.args.operator before after stopped) (sym c.something.ensures)
    (delivered_one steps c.args.operator c.args.self.now.now (take c.in-Received.count c.receive.new.buffer)
    before after
    (shows c.receive.new.self) (has_stopped c.deliver-delivered.result) (r.received.1, r.handed, r.failures, r.receives)
    c.deliver-delivered.ensures)

pub returns-in-Fault-clause-looks : goal.returns-in-Fault-clause-looks
returns-in-Fault-clause-looks g c =
    let s = g.S.Stable in
    let steps = StepsTo {S = g.row.S.Denot} s.is_honest s.is_open s.rows s.may_find s.saves s.failures s.doubts in
    let shows = shown_by g.L.DatagramLink.received g.L.DatagramLink.handed g.L.DatagramLink.failures
    g.L.DatagramLink.receives in
    let before : View (Whole g.row.S.Denot) = view c.args.station.now (shows c.args.link.now) c.args.self.now.picture in
    let r = c.in-Fault.ensures in
    failed_once steps c.args.operator c.args.self.now.now before (shows c.receive.new.self)
    (r.received, r.handed, r.failures, r.receives)

pub returns-in-Nothing-clause-looks : goal.returns-in-Nothing-clause-looks
returns-in-Nothing-clause-looks g c =
    let s = g.S.Stable in
    let steps = StepsTo {S = g.row.S.Denot} s.is_honest s.is_open s.rows s.may_find s.saves s.failures s.doubts in
    let shows = shown_by g.L.DatagramLink.received g.L.DatagramLink.handed g.L.DatagramLink.failures
    g.L.DatagramLink.receives in
    let before : View (Whole g.row.S.Denot) = view c.args.station.now (shows c.args.link.now) c.args.self.now.picture in
    let r = c.in-Nothing.ensures in
    waited_once steps c.args.operator c.args.self.now.now before (shows c.receive.new.self)
    (r.received, r.handed, r.failures, r.receives)

pub returns-in-Received-clause-asks : goal.returns-in-Received-clause-asks
returns-in-Received-clause-asks g c =
    let s = g.S.Stable in
    let steps = StepsTo {S = g.row.S.Denot} s.is_honest s.is_open s.rows s.may_find s.saves s.failures s.doubts in
    let shows = shown_by g.L.DatagramLink.received g.L.DatagramLink.handed g.L.DatagramLink.failures
    g.L.DatagramLink.receives in
    let before : View (Whole g.row.S.Denot) = view c.args.station.now (shows c.args.link.now) c.args.self.now.picture in
    let after : View (Whole g.row.S.Denot)
    = view c.deliver-delivered.new.station (shows c.deliver-delivered.new.link) c.deliver-delivered.new.self.picture in
    delivery_asks steps c.args.self.now.now (take c.in-Received.count c.receive.new.buffer) before after
    (shows c.receive.new.self) (has_stopped c.deliver-delivered.result) c.in-Received.ensures.receives
    c.deliver-delivered.ensures
