use Rattle.std.proofs.Common.{ap, sym}
use Rattle.smi_station.specs.Readers.{Whole}
use Rattle.smi_node.specs.Carried.{StepsTo}
use Rattle.smi_node.specs.Linked.{shown_by}
use Rattle.smi_screen.specs.Looking.{View, view}
use Rattle.smi_screen.specs.Ending.{has_stopped}
use Rattle.smi_screen.proofs.Turned.{same_look}
use Rattle.smi_screen.proofs.server.ScreenServer.turn.Goals as goal

pub returns-clause-looks : goal.returns-clause-looks
returns-clause-looks g c =
    let s = g.S.Stable in
    let steps = StepsTo {S = g.row.S.Denot} s.is_honest s.is_open s.rows s.may_find s.saves s.failures s.doubts in
    let shows = shown_by g.L.DatagramLink.received g.L.DatagramLink.handed g.L.DatagramLink.failures
    g.L.DatagramLink.receives in
    let station = c.args.station.now in
    let looked = c.look-looked.new in
    let from : (p : _) → View (Whole g.row.S.Denot) = λ p. view station (shows c.args.link.now) p in
    let to : (p : _) → View (Whole g.row.S.Denot) = λ p. view looked.station (shows looked.link) p in
    same_look steps c.tell_time.new.self.operator c.args.self.now.operator
    (from c.tell_time.new.self.observer.picture) (from c.args.self.now.observer.picture)
    (to looked.self.observer.picture) (to c.follow.new.self.observer.picture)
    (has_stopped c.look-looked.result) (has_stopped c.follow.result)
    c.tell_time.ensures.operator (ap from c.tell_time.ensures.picture) (ap to (sym c.follow.ensures.picture))
    (sym c.follow.ensures.stopped) c.look-looked.ensures.looks
