use Rattle.std.proofs.Common.{◌≡◌, ℕ, false, List}
use Rattle.smi_node.specs.Carried.{StepsTo}
use Rattle.smi_node.specs.Linked.{shown_by}
use Rattle.smi_screen.specs.Looking.{Deed, Looks, view}
use Rattle.smi_screen.specs.Turning.{MakesTurns}
use Rattle.smi_screen.proofs.server.ScreenServer.serve.Given as goal

-- looks so far, all in one name and each of a turn, and the station has not stopped
abbrev pub invariant-loop : goal.invariant-loop
invariant-loop g l =
    let s = g.S.Stable in
    let shows = shown_by g.L.DatagramLink.received g.L.DatagramLink.handed g.L.DatagramLink.failures
    g.L.DatagramLink.receives in
    record {
      looks : Looks (StepsTo {S = g.row.S.Denot} s.is_honest s.is_open s.rows s.may_find s.saves s.failures s.doubts)
          l.initial.self.operator (view l.initial.station (shows l.initial.link) l.initial.self.observer.picture)
          (view l.station (shows l.link) l.self.observer.picture) false;
      turns : (done : List (List (Deed × ℕ)))
          × MakesTurns
          (StepsTo {S = g.row.S.Denot} s.is_honest s.is_open s.rows s.may_find s.saves s.failures s.doubts)
          l.initial.self.operator done
          (view l.initial.station (shows l.initial.link) l.initial.self.observer.picture)
          (view l.station (shows l.link) l.self.observer.picture);
      operator : l.self.operator ≡ l.initial.self.operator;
    }
