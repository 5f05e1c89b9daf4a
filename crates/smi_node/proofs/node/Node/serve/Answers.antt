use Rattle.smi_station.specs.Readers.{Whole}
use Rattle.smi_node.specs.Carried.{Node, StepsTo, edges, node}
use Rattle.smi_node.specs.Linked.{shown_by}
use Rattle.smi_node.specs.Rising.{shown_to}
use Rattle.smi_node.proofs.Rising.{published, serves}
use Rattle.smi_node.proofs.Showing.{step_shows}
use Rattle.smi_node.proofs.node.Node.serve.Goals as goal

pub returns-clause-rises : goal.returns-clause-rises
returns-clause-rises g c =
    let s = g.S.Stable in
    let steps = StepsTo {S = g.row.S.Denot} s.is_honest s.is_open s.rows s.may_find s.saves s.failures s.doubts in
    let shows = shown_by g.L.DatagramLink.received g.L.DatagramLink.handed g.L.DatagramLink.failures
    g.L.DatagramLink.receives in
    let first : Node (Whole g.row.S.Denot) = node c.args.self.now.station.now
    (edges (shows c.args.link.now) c.args.self.now.desk.now c.args.self.now.board.now)
    (g.V.StepObserver.seen c.args.observer.now) in
    let last = c.make_turns.new.self in
    let after : Node (Whole g.row.S.Denot) = node last.station.now
    (edges (shows c.make_turns.new.link) last.desk.now last.board.now)
    (g.V.StepObserver.seen c.make_turns.new.observer) in
    λ risen.
    let still = serves (Whole g.row.S.Denot) steps (λ (w : Whole g.row.S.Denot). shown_to w.core)
    (λ a b e handed r. step_shows s.is_honest s.is_open s.rows s.may_find s.saves s.failures s.doubts a b e handed r)
    c.args.self.now.operators.now c.args.turns first after c.make_turns.result c.make_turns.ensures.serves risen in
    (still, published (shown_to last.station.now.core) last.board.now still)
