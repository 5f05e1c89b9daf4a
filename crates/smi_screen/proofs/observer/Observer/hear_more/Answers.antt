use Rattle.std.proofs.Common.{false, true}
use Rattle.smi_station.specs.Readers.{Whole}
use Rattle.smi_node.specs.Carried.{StepsTo}
use Rattle.smi_node.specs.Linked.{shown_by}
use Rattle.smi_screen.specs.Looking.{View, view}
use Rattle.smi_screen.proofs.Looks.{both}
use Rattle.smi_screen.proofs.observer.Observer.hear_more.Goals as goal

pub loop-preserved : goal.loop-preserved
loop-preserved g c =
    let s = g.S.Stable in
    let steps = StepsTo {S = g.row.S.Denot} s.is_honest s.is_open s.rows s.may_find s.saves s.failures s.doubts in
    let shows = shown_by g.L.DatagramLink.received g.L.DatagramLink.handed g.L.DatagramLink.failures
    g.L.DatagramLink.receives in
    let first : View (Whole g.row.S.Denot) = view c.args.station.now (shows c.args.link.now) c.args.self.now.picture in
    let before : View (Whole g.row.S.Denot) = view c.loop.station (shows c.loop.link) c.loop.self.picture in
    let after : View (Whole g.row.S.Denot) = view c.hear.new.station (shows c.hear.new.link) c.hear.new.self.picture in
    both steps c.args.operator first before after false c.loop.invariant c.in-Ok.ensures.looks

pub returns-in-Err : goal.returns-in-Err
returns-in-Err g c =
    let s = g.S.Stable in
    let steps = StepsTo {S = g.row.S.Denot} s.is_honest s.is_open s.rows s.may_find s.saves s.failures s.doubts in
    let shows = shown_by g.L.DatagramLink.received g.L.DatagramLink.handed g.L.DatagramLink.failures
    g.L.DatagramLink.receives in
    let first : View (Whole g.row.S.Denot) = view c.args.station.now (shows c.args.link.now) c.args.self.now.picture in
    let before : View (Whole g.row.S.Denot) = view c.loop.station (shows c.loop.link) c.loop.self.picture in
    let after : View (Whole g.row.S.Denot) = view c.hear.new.station (shows c.hear.new.link) c.hear.new.self.picture in
    both steps c.args.operator first before after true c.loop.invariant c.in-Err.ensures.looks

pub returns-then-ne : goal.returns-then-ne
returns-then-ne g c =
    let s = g.S.Stable in
    let steps = StepsTo {S = g.row.S.Denot} s.is_honest s.is_open s.rows s.may_find s.saves s.failures s.doubts in
    let shows = shown_by g.L.DatagramLink.received g.L.DatagramLink.handed g.L.DatagramLink.failures
    g.L.DatagramLink.receives in
    let first : View (Whole g.row.S.Denot) = view c.args.station.now (shows c.args.link.now) c.args.self.now.picture in
    let before : View (Whole g.row.S.Denot) = view c.loop.station (shows c.loop.link) c.loop.self.picture in
    let after : View (Whole g.row.S.Denot) = view c.hear.new.station (shows c.hear.new.link) c.hear.new.self.picture in
    both steps c.args.operator first before after false c.loop.invariant c.in-Ok.ensures.looks
