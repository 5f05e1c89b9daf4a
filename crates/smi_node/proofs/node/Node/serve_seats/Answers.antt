use Rattle.std.proofs.Common.{◌<◌, ◌∙◌, ℕ, List, None, Some, sym, subst}
use Rattle.smi_station.specs.Readers.{Whole}
use Rattle.smi_node.specs.Carried.{Node, StepsTo, edges, node}
use Rattle.smi_node.specs.Linked.{shown_by}
use Rattle.smi_node.specs.Served.{ServesSeat, carrying}
use Rattle.smi_node.proofs.Edges.{seat_keeps}
use Rattle.smi_node.proofs.Turned.{broken_seat, next_seat}
use Rattle.smi_node.proofs.node.Node.serve_seats.Goals as goal

pub serve_seat-requires : goal.serve_seat-requires
serve_seat-requires g c = subst (λ n. c.loop-seat.seat < n) (sym c.loop-seat.invariant.count) c.loop-seat-test.true

pub loop-seat-preserved : goal.loop-seat-preserved
loop-seat-preserved g c =
    let s = g.S.Stable in
    let steps = StepsTo {S = g.row.S.Denot} s.is_honest s.is_open s.rows s.may_find s.saves s.failures s.doubts in
    let shows = shown_by g.L.DatagramLink.received g.L.DatagramLink.handed g.L.DatagramLink.failures
    g.L.DatagramLink.receives in
    let operators = c.args.self.now.operators.now in
    let first : Node (Whole g.row.S.Denot) = node c.args.self.now.station.now
    (edges (shows c.args.link.now) c.args.self.now.desk.now c.args.self.now.board.now)
    (g.V.StepObserver.seen c.args.observer.now) in
    let before : Node (Whole g.row.S.Denot) = node c.loop-seat.self.station.now
    (edges (shows c.loop-seat.link) c.loop-seat.self.desk.now c.loop-seat.self.board.now)
    (g.V.StepObserver.seen c.loop-seat.observer) in
    let after : Node (Whole g.row.S.Denot) = node c.serve_seat.new.self.station.now
    (edges (shows c.serve_seat.new.link) c.serve_seat.new.self.desk.now c.serve_seat.new.self.board.now)
    (g.V.StepObserver.seen c.serve_seat.new.observer) in
    let who = c.operator_of_seat-who in
    let seat = c.loop-seat.seat in
    let one : ServesSeat (carrying steps operators) who.result seat before after None =
    subst (λ (o : List ℕ). ServesSeat (carrying steps o) who.result seat before after None)
    c.loop-seat.invariant.operators c.in-Ok.ensures.serves in
    record {
      served = next_seat (carrying steps operators) operators c.seat_count-seats.result seat who.result first before
          after who.ensures c.loop-seat.invariant.served one;
      count = (seat_keeps steps operators who.result seat before after None one).seats ∙ c.loop-seat.invariant.count;
      station = c.serve_seat.ensures.station ∙ c.loop-seat.invariant.station;
      desk = c.serve_seat.ensures.desk ∙ c.loop-seat.invariant.desk;
      board = c.serve_seat.ensures.board ∙ c.loop-seat.invariant.board;
      out = c.serve_seat.ensures.out ∙ c.loop-seat.invariant.out;
      operators = c.serve_seat.ensures.operators ∙ c.loop-seat.invariant.operators;
    }

pub returns-in-Err-clause-serves : goal.returns-in-Err-clause-serves
returns-in-Err-clause-serves g c =
    let s = g.S.Stable in
    let steps = StepsTo {S = g.row.S.Denot} s.is_honest s.is_open s.rows s.may_find s.saves s.failures s.doubts in
    let shows = shown_by g.L.DatagramLink.received g.L.DatagramLink.handed g.L.DatagramLink.failures
    g.L.DatagramLink.receives in
    let operators = c.args.self.now.operators.now in
    let first : Node (Whole g.row.S.Denot) = node c.args.self.now.station.now
    (edges (shows c.args.link.now) c.args.self.now.desk.now c.args.self.now.board.now)
    (g.V.StepObserver.seen c.args.observer.now) in
    let before : Node (Whole g.row.S.Denot) = node c.loop-seat.self.station.now
    (edges (shows c.loop-seat.link) c.loop-seat.self.desk.now c.loop-seat.self.board.now)
    (g.V.StepObserver.seen c.loop-seat.observer) in
    let after : Node (Whole g.row.S.Denot) = node c.serve_seat.new.self.station.now
    (edges (shows c.serve_seat.new.link) c.serve_seat.new.self.desk.now c.serve_seat.new.self.board.now)
    (g.V.StepObserver.seen c.serve_seat.new.observer) in
    let who = c.operator_of_seat-who in
    let seat = c.loop-seat.seat in
    broken_seat (carrying steps operators) operators c.seat_count-seats.result seat _ who.result first before after
    c.in-Err.fault who.ensures c.seat_count-seats.ensures c.loop-seat-test.true c.loop-seat.invariant.served
    (subst (λ (o : List ℕ). ServesSeat (carrying steps o) who.result seat before after (Some c.in-Err.fault))
    c.loop-seat.invariant.operators c.in-Err.ensures.serves)
