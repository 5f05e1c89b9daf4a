use Rattle.std.proofs.Common.{◌≡◌, ℕ}
use Rattle.smi_node.specs.Carried.{edges, node}
use Rattle.smi_node.specs.Linked.{shown_by}
use Rattle.smi_console.specs.Serving.{ServesOn, serving}
use Rattle.smi_console.proofs.station_loop.served.Given as goal

-- so far it was served so often, and each time for all of its turns, and the node has what it had
abbrev pub invariant-loop : goal.invariant-loop
invariant-loop g l =
    let s = g.S.Stable in
    let shows = shown_by g.L.DatagramLink.received g.L.DatagramLink.handed g.L.DatagramLink.failures
    g.L.DatagramLink.receives in
    let first = l.initial.node in
    record {
      serves : (times : ℕ)
          × ServesOn (serving {S = g.row.S.Denot} s.is_honest s.is_open s.rows s.may_find s.saves s.failures s.doubts
          first.operators.now) times
          (node first.station.now (edges (shows l.initial.link) first.desk.now first.board.now)
          (g.V.StepObserver.seen l.initial.observer))
          (node l.node.station.now (edges (shows l.link) l.node.desk.now l.node.board.now)
          (g.V.StepObserver.seen l.observer));
      station : l.node.station.ghost_name ≡ first.station.ghost_name;
      desk : l.node.desk.ghost_name ≡ first.desk.ghost_name;
      board : l.node.board.ghost_name ≡ first.board.ghost_name;
      out : l.node.out.ghost_name ≡ first.out.ghost_name;
      operators : l.node.operators.now ≡ first.operators.now;
    }
