use Rattle.std.proofs.Common.{◌∙◌, ℕ, List, Result, Ok, Err, suc, refl, subst}
use Rattle.smi_station.specs.Readers.{Whole}
use Rattle.smi_node.specs.Carried.{Node, StepsTo, edges, node}
use Rattle.smi_node.specs.Linked.{shown_by}
use Rattle.smi_console.specs.Serving.{serving}
use Rattle.smi_console.specs.declared.station_loop.TheConstants.{TURNS_AT_ONCE}
use Rattle.smi_console.proofs.station_loop.served.Goals as goal

pub loop-init : goal.loop-init
loop-init g c = record { serves = (0, refl); station = refl; desk = refl; board = refl; out = refl; operators = refl }

pub loop-preserved : goal.loop-preserved
loop-preserved g c =
    let s = g.S.Stable in
    let shows = shown_by g.L.DatagramLink.received g.L.DatagramLink.handed g.L.DatagramLink.failures
    g.L.DatagramLink.receives in
    let before : Node (Whole g.row.S.Denot) = node c.loop.node.station.now
    (edges (shows c.loop.link) c.loop.node.desk.now c.loop.node.board.now) (g.V.StepObserver.seen c.loop.observer) in
    let last = c.serve-in-loop.new.self in
    let after : Node (Whole g.row.S.Denot) = node last.station.now
    (edges (shows c.serve-in-loop.new.link) last.desk.now last.board.now)
    (g.V.StepObserver.seen c.serve-in-loop.new.observer) in
    record {
      serves = (
        suc c.loop.invariant.serves.0,
        (
          before,
          after,
          c.loop.invariant.serves.1,
          subst (λ (o : List ℕ). (serving {S = g.row.S.Denot} s.is_honest s.is_open s.rows s.may_find s.saves s.failures
              s.doubts o).Makes TURNS_AT_ONCE before after (Ok tt)) c.loop.invariant.operators c.in-Ok.ensures.serves,
          (refl, c.rest.ensures),
        ),
      );
      station = c.serve-in-loop.ensures.station ∙ c.loop.invariant.station;
      desk = c.serve-in-loop.ensures.desk ∙ c.loop.invariant.desk;
      board = c.serve-in-loop.ensures.board ∙ c.loop.invariant.board;
      out = c.serve-in-loop.ensures.out ∙ c.loop.invariant.out;
      operators = c.serve-in-loop.ensures.operators ∙ c.loop.invariant.operators;
    }

pub returns-in-Err-clause-serves : goal.returns-in-Err-clause-serves
returns-in-Err-clause-serves g c =
    let s = g.S.Stable in
    let shows = shown_by g.L.DatagramLink.received g.L.DatagramLink.handed g.L.DatagramLink.failures
    g.L.DatagramLink.receives in
    let before : Node (Whole g.row.S.Denot) = node c.loop.node.station.now
    (edges (shows c.loop.link) c.loop.node.desk.now c.loop.node.board.now) (g.V.StepObserver.seen c.loop.observer) in
    let last = c.serve-in-loop.new.self in
    let after : Node (Whole g.row.S.Denot) = node last.station.now
    (edges (shows c.serve-in-loop.new.link) last.desk.now last.board.now)
    (g.V.StepObserver.seen c.serve-in-loop.new.observer) in
    rw c.in-Endless.is (
      c.loop.invariant.serves.0,
      before,
      c.loop.invariant.serves.1,
      subst (λ (o : List ℕ). (serving {S = g.row.S.Denot} s.is_honest s.is_open s.rows s.may_find s.saves s.failures
          s.doubts o).Makes TURNS_AT_ONCE before after (Err c.in-Err.fault)) c.loop.invariant.operators
          c.in-Err.ensures.serves,
    )
