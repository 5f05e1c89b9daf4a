use Rattle.std.proofs.Common.{ℕ, List, None, Some, subst}
use Rattle.smi_operator.specs.Sides.{seat_count}
use Rattle.smi_station.specs.Readers.{Whole}
use Rattle.smi_node.specs.Carried.{Node, StepsTo, edges, node}
use Rattle.smi_node.specs.Linked.{shown_by}
use Rattle.smi_node.specs.Served.{ServesAll, carrying}
use Rattle.smi_node.proofs.Turned.{broken_turn, whole_turn}
use Rattle.smi_node.proofs.node.Node.turn.Goals as goal

pub returns-in-Ok-serve_seats-clause-turns : goal.returns-in-Ok-serve_seats-clause-turns
returns-in-Ok-serve_seats-clause-turns g c =
    let s = g.S.Stable in
    let steps = StepsTo {S = g.row.S.Denot} s.is_honest s.is_open s.rows s.may_find s.saves s.failures s.doubts in
    let shows = shown_by g.L.DatagramLink.received g.L.DatagramLink.handed g.L.DatagramLink.failures
    g.L.DatagramLink.receives in
    let operators = c.args.self.now.operators.now in
    let first : Node (Whole g.row.S.Denot) = node c.args.self.now.station.now
    (edges (shows c.args.link.now) c.args.self.now.desk.now c.args.self.now.board.now)
    (g.V.StepObserver.seen c.args.observer.now) in
    let before : Node (Whole g.row.S.Denot) = node c.hear.new.self.station.now
    (edges (shows c.hear.new.link) c.hear.new.self.desk.now c.hear.new.self.board.now)
    (g.V.StepObserver.seen c.hear.new.observer) in
    let after : Node (Whole g.row.S.Denot) = node c.serve_seats.new.self.station.now
    (edges (shows c.serve_seats.new.link) c.serve_seats.new.self.desk.now c.serve_seats.new.self.board.now)
    (g.V.StepObserver.seen c.serve_seats.new.observer) in
    whole_turn (carrying steps operators) operators first before after.station after.edges after.seen
    (g.V.StepObserver.seen c.on_turn.new.self) c.in-Ok.failed c.in-Ok.ensures.hears
    (subst (λ (o : List ℕ). ServesAll (carrying steps o) o (seat_count before.edges.desk) before after None)
    c.hear.ensures.operators c.in-Ok-serve_seats.ensures.serves)
    c.on_turn.ensures

pub returns-in-Err-serve_seats-clause-turns : goal.returns-in-Err-serve_seats-clause-turns
returns-in-Err-serve_seats-clause-turns g c =
    let s = g.S.Stable in
    let steps = StepsTo {S = g.row.S.Denot} s.is_honest s.is_open s.rows s.may_find s.saves s.failures s.doubts in
    let shows = shown_by g.L.DatagramLink.received g.L.DatagramLink.handed g.L.DatagramLink.failures
    g.L.DatagramLink.receives in
    let operators = c.args.self.now.operators.now in
    let first : Node (Whole g.row.S.Denot) = node c.args.self.now.station.now
    (edges (shows c.args.link.now) c.args.self.now.desk.now c.args.self.now.board.now)
    (g.V.StepObserver.seen c.args.observer.now) in
    let before : Node (Whole g.row.S.Denot) = node c.hear.new.self.station.now
    (edges (shows c.hear.new.link) c.hear.new.self.desk.now c.hear.new.self.board.now)
    (g.V.StepObserver.seen c.hear.new.observer) in
    let after : Node (Whole g.row.S.Denot) = node c.serve_seats.new.self.station.now
    (edges (shows c.serve_seats.new.link) c.serve_seats.new.self.desk.now c.serve_seats.new.self.board.now)
    (g.V.StepObserver.seen c.serve_seats.new.observer) in
    let fault = c.in-Err-serve_seats.fault in
    broken_turn (carrying steps operators) operators first before after c.in-Ok.failed fault c.in-Ok.ensures.hears
    (subst (λ (o : List ℕ). ServesAll (carrying steps o) o (seat_count before.edges.desk) before after (Some fault))
    c.hear.ensures.operators c.in-Err-serve_seats.ensures.serves)
