use Rattle.std.proofs.Common.{Option, None, Some, refl, subst}
use Rattle.smi_protocol.specs.declared.event.Event.{Event}
use Rattle.smi_station.specs.Readers.{Whole}
use Rattle.smi_node.specs.Carried.{Node, StepsTo, edges, fault_in, node}
use Rattle.smi_node.specs.Linked.{shown_by}
use Rattle.smi_node.specs.Served.{Obeys, carrying, with_desk}
use Rattle.smi_node.proofs.node.Node.serve_seat.Goals as goal

pub returns-in-Some-clause-serves : goal.returns-in-Some-clause-serves
returns-in-Some-clause-serves g c =
    let s = g.S.Stable in
    let steps = StepsTo {S = g.row.S.Denot} s.is_honest s.is_open s.rows s.may_find s.saves s.failures s.doubts in
    let shows = shown_by g.L.DatagramLink.received g.L.DatagramLink.handed g.L.DatagramLink.failures
    g.L.DatagramLink.receives in
    let first : Node (Whole g.row.S.Denot) = node c.args.self.now.station.now
    (edges (shows c.args.link.now) c.args.self.now.desk.now c.args.self.now.board.now)
    (g.V.StepObserver.seen c.args.observer.now) in
    let after : Node (Whole g.row.S.Denot) = node c.serve_order.new.self.station.now
    (edges (shows c.serve_order.new.link) c.serve_order.new.self.desk.now c.serve_order.new.self.board.now)
    (g.V.StepObserver.seen c.serve_order.new.observer) in (
      Some c.in-Some.order,
      c.next.new.self,
      c.in-Some.ensures.step,
      c.in-Some.ensures.succeeds,
      subst (λ (e : Option Event). Obeys (carrying steps c.args.self.now.operators.now) c.args.served.seat e
          (with_desk first c.next.new.self) after (fault_in c.serve_order.result))
          c.event_of.ensures c.serve_order.ensures.obeys,
    )

pub returns-in-None-clause-serves : goal.returns-in-None-clause-serves
returns-in-None-clause-serves g c =
    (None, c.next.new.self, c.in-None.ensures.step, c.in-None.ensures.succeeds, (refl, refl))
