use Rattle.std.proofs.Common.{false}
use Rattle.smi_node.specs.Carried.{StepsTo}
use Rattle.smi_node.specs.Linked.{shown_by}
use Rattle.smi_screen.specs.Looking.{Looks, view}
use Rattle.smi_screen.proofs.observer.Observer.hear_more.Given as goal

-- deeds so far, and the station has not stopped
abbrev pub invariant-loop : goal.invariant-loop
invariant-loop g l =
    let s = g.S.Stable in
    let shows = shown_by g.L.DatagramLink.received g.L.DatagramLink.handed g.L.DatagramLink.failures
    g.L.DatagramLink.receives in
    Looks (StepsTo {S = g.row.S.Denot} s.is_honest s.is_open s.rows s.may_find s.saves s.failures s.doubts) l.operator
    (view l.initial.station (shows l.initial.link) l.initial.self.picture)
    (view l.station (shows l.link) l.self.picture) false
