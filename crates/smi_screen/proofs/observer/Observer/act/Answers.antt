use Rattle.std.proofs.Common.{false, true}
use Rattle.smi_station.specs.Readers.{Whole}
use Rattle.smi_node.specs.Carried.{StepsTo}
use Rattle.smi_node.specs.Linked.{shown_by}
use Rattle.smi_screen.specs.Looking.{View, has_stopped, view}
use Rattle.smi_screen.proofs.Looks.{both}
use Rattle.smi_screen.proofs.observer.Observer.act.Goals as goal

pub returns-in-Ok-ask_next : goal.returns-in-Ok-ask_next
returns-in-Ok-ask_next g c =
    let s = g.S.Stable in
    let steps = StepsTo {S = g.row.S.Denot} s.is_honest s.is_open s.rows s.may_find s.saves s.failures s.doubts in
    let shows = shown_by g.L.DatagramLink.received g.L.DatagramLink.handed g.L.DatagramLink.failures
    g.L.DatagramLink.receives in
    let first : View (Whole g.row.S.Denot) = view c.args.station.now (shows c.args.link.now) c.args.self.now.picture in
    let watched : View (Whole g.row.S.Denot)
    = view c.watch_next.new.station (shows c.watch_next.new.link) c.watch_next.new.self.picture in
    let asked : View (Whole g.row.S.Denot)
    = view c.ask_next.new.station (shows c.ask_next.new.link) c.ask_next.new.self.picture in
    let after : View (Whole g.row.S.Denot) = view c.tick.new.station (shows c.tick.new.link) c.tick.new.self.picture in
    both steps c.args.operator first asked after (has_stopped c.tick.result)
    (both steps c.args.operator first watched asked false c.in-Ok.ensures c.in-Ok-ask_next.ensures) c.tick.ensures

pub returns-in-Err-ask_next : goal.returns-in-Err-ask_next
returns-in-Err-ask_next g c =
    let s = g.S.Stable in
    let steps = StepsTo {S = g.row.S.Denot} s.is_honest s.is_open s.rows s.may_find s.saves s.failures s.doubts in
    let shows = shown_by g.L.DatagramLink.received g.L.DatagramLink.handed g.L.DatagramLink.failures
    g.L.DatagramLink.receives in
    let first : View (Whole g.row.S.Denot) = view c.args.station.now (shows c.args.link.now) c.args.self.now.picture in
    let watched : View (Whole g.row.S.Denot)
    = view c.watch_next.new.station (shows c.watch_next.new.link) c.watch_next.new.self.picture in
    let after : View (Whole g.row.S.Denot)
    = view c.ask_next.new.station (shows c.ask_next.new.link) c.ask_next.new.self.picture in
    both steps c.args.operator first watched after true c.in-Ok.ensures c.in-Err-ask_next.ensures
