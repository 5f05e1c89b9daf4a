use Rattle.std.proofs.Common.{◌≡◌, ◌∙◌, ℕ, Bool, List, Result, Ok, Err, subst, sym, arith}
use Rattle.smi_station.specs.Readers.{Whole}
use Rattle.smi_node.specs.Carried.{Node, StepsTo, edges, node}
use Rattle.smi_node.specs.Linked.{shown_by}
use Rattle.smi_node.specs.Served.{Serves, carrying}
use Rattle.smi_node.specs.Turning.{TurnsSo}
use Rattle.smi_node.specs.declared.node.CarryFault.{CarryFault}
use Rattle.smi_node.specs.declared.turns.ServeFault.{ServeFault}
use Rattle.smi_node.proofs.Service.{broken, link_failed, served, still_made, still_short}
use Rattle.smi_node.proofs.node.Node.make_turns.Goals as goal

pub in_a_row-faults-requires : goal.in_a_row-faults-requires
in_a_row-faults-requires g c = c.loop.invariant.made.few

pub loop-preserved : goal.loop-preserved
loop-preserved g c =
    let s = g.S.Stable in
    let steps = StepsTo {S = g.row.S.Denot} s.is_honest s.is_open s.rows s.may_find s.saves s.failures s.doubts in
    let shows = shown_by g.L.DatagramLink.received g.L.DatagramLink.handed g.L.DatagramLink.failures
    g.L.DatagramLink.receives in
    let operators = c.args.self.now.operators.now in
    let first : Node (Whole g.row.S.Denot) = node c.args.self.now.station.now
    (edges (shows c.args.link.now) c.args.self.now.desk.now c.args.self.now.board.now)
    (g.V.StepObserver.seen c.args.observer.now) in
    let before : Node (Whole g.row.S.Denot) = node c.loop.self.station.now
    (edges (shows c.loop.link) c.loop.self.desk.now c.loop.self.board.now) (g.V.StepObserver.seen c.loop.observer) in
    let after : Node (Whole g.row.S.Denot) = node c.turn.new.self.station.now
    (edges (shows c.turn.new.link) c.turn.new.self.desk.now c.turn.new.self.board.now)
    (g.V.StepObserver.seen c.turn.new.observer) in
    let turned : (r : Result Bool CarryFault) → TurnsSo (carrying steps c.loop.self.operators.now)
    c.loop.self.operators.now before after r → TurnsSo (carrying steps operators) operators before after r =
    λ r. subst (λ (o : List ℕ). TurnsSo (carrying steps o) o before after r) c.loop.invariant.operators in
    record {
      made = still_made (carrying steps operators) operators c.loop.counter c.loop.faults c.in_a_row-faults.result first
          before after c.in-Ok.failed c.loop.invariant.made (turned (Ok c.in-Ok.failed) c.in-Ok.ensures.turns)
          c.in_a_row-faults.ensures (still_short c.loop.faults c.in_a_row-faults.result c.in-Ok.failed
          c.loop.invariant.made.few c.in_a_row-faults.ensures c.if-faults-eq-MOST_FAULTS.false);
      station = c.turn.ensures.station ∙ c.loop.invariant.station;
      desk = c.turn.ensures.desk ∙ c.loop.invariant.desk;
      board = c.turn.ensures.board ∙ c.loop.invariant.board;
      out = c.turn.ensures.out ∙ c.loop.invariant.out;
      operators = c.turn.ensures.operators ∙ c.loop.invariant.operators;
    }

pub returns-then-faults-eq-MOST_FAULTS-clause-serves : goal.returns-then-faults-eq-MOST_FAULTS-clause-serves
returns-then-faults-eq-MOST_FAULTS-clause-serves g c =
    let s = g.S.Stable in
    let steps = StepsTo {S = g.row.S.Denot} s.is_honest s.is_open s.rows s.may_find s.saves s.failures s.doubts in
    let shows = shown_by g.L.DatagramLink.received g.L.DatagramLink.handed g.L.DatagramLink.failures
    g.L.DatagramLink.receives in
    let operators = c.args.self.now.operators.now in
    let first : Node (Whole g.row.S.Denot) = node c.args.self.now.station.now
    (edges (shows c.args.link.now) c.args.self.now.desk.now c.args.self.now.board.now)
    (g.V.StepObserver.seen c.args.observer.now) in
    let before : Node (Whole g.row.S.Denot) = node c.loop.self.station.now
    (edges (shows c.loop.link) c.loop.self.desk.now c.loop.self.board.now) (g.V.StepObserver.seen c.loop.observer) in
    let after : Node (Whole g.row.S.Denot) = node c.turn.new.self.station.now
    (edges (shows c.turn.new.link) c.turn.new.self.desk.now c.turn.new.self.board.now)
    (g.V.StepObserver.seen c.turn.new.observer) in
    let turned : (r : Result Bool CarryFault) → TurnsSo (carrying steps c.loop.self.operators.now)
    c.loop.self.operators.now before after r → TurnsSo (carrying steps operators) operators before after r =
    λ r. subst (λ (o : List ℕ). TurnsSo (carrying steps o) o before after r) c.loop.invariant.operators in
    link_failed steps operators c.loop.counter c.args.turns c.loop.faults c.in_a_row-faults.result first before
    after c.in-Ok.failed c.loop.invariant.made (turned (Ok c.in-Ok.failed) c.in-Ok.ensures.turns) c.loop-test.true
    c.in_a_row-faults.ensures c.if-faults-eq-MOST_FAULTS.true

pub returns-in-Err-clause-serves : goal.returns-in-Err-clause-serves
returns-in-Err-clause-serves g c =
    let s = g.S.Stable in
    let steps = StepsTo {S = g.row.S.Denot} s.is_honest s.is_open s.rows s.may_find s.saves s.failures s.doubts in
    let shows = shown_by g.L.DatagramLink.received g.L.DatagramLink.handed g.L.DatagramLink.failures
    g.L.DatagramLink.receives in
    let operators = c.args.self.now.operators.now in
    let first : Node (Whole g.row.S.Denot) = node c.args.self.now.station.now
    (edges (shows c.args.link.now) c.args.self.now.desk.now c.args.self.now.board.now)
    (g.V.StepObserver.seen c.args.observer.now) in
    let before : Node (Whole g.row.S.Denot) = node c.loop.self.station.now
    (edges (shows c.loop.link) c.loop.self.desk.now c.loop.self.board.now) (g.V.StepObserver.seen c.loop.observer) in
    let after : Node (Whole g.row.S.Denot) = node c.turn.new.self.station.now
    (edges (shows c.turn.new.link) c.turn.new.self.desk.now c.turn.new.self.board.now)
    (g.V.StepObserver.seen c.turn.new.observer) in
    let turned : (r : Result Bool CarryFault) → TurnsSo (carrying steps c.loop.self.operators.now)
    c.loop.self.operators.now before after r → TurnsSo (carrying steps operators) operators before after r =
    λ r. subst (λ (o : List ℕ). TurnsSo (carrying steps o) o before after r) c.loop.invariant.operators in
    subst (λ (f : ServeFault). Serves (carrying steps operators) operators c.args.turns first after (Err f))
    (sym c.ended_by.ensures)
    (broken steps operators c.loop.counter c.args.turns c.loop.faults first before after c.in-Err.fault
    c.loop.invariant.made (turned (Err c.in-Err.fault) c.in-Err.ensures.turns) c.loop-test.true)

pub returns-clause-serves : goal.returns-clause-serves
returns-clause-serves g c =
    let s = g.S.Stable in
    let steps = StepsTo {S = g.row.S.Denot} s.is_honest s.is_open s.rows s.may_find s.saves s.failures s.doubts in
    let shows = shown_by g.L.DatagramLink.received g.L.DatagramLink.handed g.L.DatagramLink.failures
    g.L.DatagramLink.receives in
    let operators = c.args.self.now.operators.now in
    let first : Node (Whole g.row.S.Denot) = node c.args.self.now.station.now
    (edges (shows c.args.link.now) c.args.self.now.desk.now c.args.self.now.board.now)
    (g.V.StepObserver.seen c.args.observer.now) in
    let before : Node (Whole g.row.S.Denot) = node c.loop.self.station.now
    (edges (shows c.loop.link) c.loop.self.desk.now c.loop.self.board.now) (g.V.StepObserver.seen c.loop.observer) in
    let made : c.loop.counter ≡ c.args.turns = (let most = c.loop.auto.counter-end in
    let least = c.loop-test.false in omega (arith, most, least)) in
    served steps operators c.loop.counter c.args.turns c.loop.faults first before c.loop.invariant.made made
