use Rattle.std.proofs.Common.{◌≡◌}
use Rattle.smi_operator.specs.Sides.{seat_count}
use Rattle.smi_node.specs.Carried.{StepsTo, edges, node}
use Rattle.smi_node.specs.Linked.{shown_by}
use Rattle.smi_node.specs.Served.{ServesSeats, carrying}
use Rattle.smi_node.proofs.node.Node.serve_seats.Given as goal

-- the seats so far are served, there are as many as before, and the node has what it had
abbrev pub invariant-loop-seat : goal.invariant-loop-seat
invariant-loop-seat g l =
    let s = g.S.Stable in
    let steps = StepsTo {S = g.row.S.Denot} s.is_honest s.is_open s.rows s.may_find s.saves s.failures s.doubts in
    let shows = shown_by g.L.DatagramLink.received g.L.DatagramLink.handed g.L.DatagramLink.failures
    g.L.DatagramLink.receives in
    let operators = l.initial.self.operators.now in
    record {
      served : ServesSeats (carrying steps operators) operators l.seats l.seat
          (node l.initial.self.station.now (edges (shows l.initial.link) l.initial.self.desk.now
          l.initial.self.board.now)
          (g.V.StepObserver.seen l.initial.observer))
          (node l.self.station.now (edges (shows l.link) l.self.desk.now l.self.board.now)
          (g.V.StepObserver.seen l.observer));
      count : seat_count l.self.desk.now ≡ l.seats;
      station : l.self.station.ghost_name ≡ l.initial.self.station.ghost_name;
      desk : l.self.desk.ghost_name ≡ l.initial.self.desk.ghost_name;
      board : l.self.board.ghost_name ≡ l.initial.self.board.ghost_name;
      out : l.self.out.ghost_name ≡ l.initial.self.out.ghost_name;
      operators : l.self.operators.now ≡ l.initial.self.operators.now;
    }
