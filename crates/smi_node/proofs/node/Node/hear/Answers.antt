use Rattle.std.proofs.Common.{take, refl}
use Rattle.smi_station.specs.Readers.{Whole}
use Rattle.smi_node.specs.Carried.{Node, StepsTo, edges, fault_in, node}
use Rattle.smi_node.specs.Linked.{shown_by}
use Rattle.smi_node.specs.Served.{Came, Failed, Quiet, carrying}
use Rattle.smi_node.proofs.Turned.{datagram_heard, heard_so}
use Rattle.smi_node.proofs.node.Node.hear.Goals as goal

pub returns-in-Received-clause-hears : goal.returns-in-Received-clause-hears
returns-in-Received-clause-hears g c =
    let s = g.S.Stable in
    let steps = StepsTo {S = g.row.S.Denot} s.is_honest s.is_open s.rows s.may_find s.saves s.failures s.doubts in
    let shows = shown_by g.L.DatagramLink.received g.L.DatagramLink.handed g.L.DatagramLink.failures
    g.L.DatagramLink.receives in
    let operators = c.args.self.now.operators.now in
    let first : Node (Whole g.row.S.Denot) = node c.args.self.now.station.now
    (edges (shows c.args.link.now) c.args.self.now.desk.now c.args.self.now.board.now)
    (g.V.StepObserver.seen c.args.observer.now) in
    let after : Node (Whole g.row.S.Denot) = node c.carry.new.self.station.now
    (edges (shows c.carry.new.link) c.carry.new.self.desk.now c.carry.new.self.board.now)
    (g.V.StepObserver.seen c.carry.new.observer) in
    let bytes = take c.in-Received.count c.receive.new.buffer in
    let r = c.in-Received.ensures in
    heard_so (carrying steps operators) (Came bytes) first after c.carry.result c.has_come.result
    c.has_come.ensures.fault c.has_come.ensures.came refl
    (datagram_heard (carrying steps operators) bytes _ first after (shows c.receive.new.self) (fault_in c.carry.result)
    (r.received.1, r.handed, r.failures, r.receives) refl (c.carry.new.self.out.now, c.carry.ensures.carries))

pub returns-in-Nothing-clause-hears : goal.returns-in-Nothing-clause-hears
returns-in-Nothing-clause-hears g c =
    let s = g.S.Stable in
    let steps = StepsTo {S = g.row.S.Denot} s.is_honest s.is_open s.rows s.may_find s.saves s.failures s.doubts in
    let shows = shown_by g.L.DatagramLink.received g.L.DatagramLink.handed g.L.DatagramLink.failures
    g.L.DatagramLink.receives in
    let operators = c.args.self.now.operators.now in
    let first : Node (Whole g.row.S.Denot) = node c.args.self.now.station.now
    (edges (shows c.args.link.now) c.args.self.now.desk.now c.args.self.now.board.now)
    (g.V.StepObserver.seen c.args.observer.now) in
    let after : Node (Whole g.row.S.Denot) = node c.carry-in-Nothing.new.self.station.now
    (edges (shows c.carry-in-Nothing.new.link) c.carry-in-Nothing.new.self.desk.now
    c.carry-in-Nothing.new.self.board.now)
    (g.V.StepObserver.seen c.carry-in-Nothing.new.observer) in
    let r = c.in-Nothing.ensures in
    heard_so (carrying steps operators) Quiet first after c.carry-in-Nothing.result c.has_come-in-Nothing.result
    c.has_come-in-Nothing.ensures.fault c.has_come-in-Nothing.ensures.came refl (
      shows c.receive.new.self,
      (r.received, r.handed, r.failures, r.receives),
      (c.carry-in-Nothing.new.self.out.now, c.carry-in-Nothing.ensures.carries),
    )

pub returns-in-Fault-clause-hears : goal.returns-in-Fault-clause-hears
returns-in-Fault-clause-hears g c =
    let shows = shown_by g.L.DatagramLink.received g.L.DatagramLink.handed g.L.DatagramLink.failures
    g.L.DatagramLink.receives in
    let r = c.in-Fault.ensures in
    (Failed, refl, (shows c.receive.new.self, (r.received, r.handed, r.failures, r.receives), refl, refl))
