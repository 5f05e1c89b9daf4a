use Rattle.std.proofs.Common.{◌≤◌, arith, false, true}
use Rattle.smi_station.specs.Readers.{Whole}
use Rattle.smi_node.specs.Carried.{StepsTo}
use Rattle.smi_node.specs.Linked.{shown_by}
use Rattle.smi_screen.specs.Looking.{View, view}
use Rattle.smi_screen.proofs.Asked.{looks_ask}
use Rattle.smi_screen.proofs.Looks.{both}
use Rattle.smi_screen.proofs.observer.Observer.hear_and_act.Goals as goal

pub returns-in-Ok-act-clause-looks : goal.returns-in-Ok-act-clause-looks
returns-in-Ok-act-clause-looks g c =
    let s = g.S.Stable in
    let steps = StepsTo {S = g.row.S.Denot} s.is_honest s.is_open s.rows s.may_find s.saves s.failures s.doubts in
    let shows = shown_by g.L.DatagramLink.received g.L.DatagramLink.handed g.L.DatagramLink.failures
    g.L.DatagramLink.receives in
    let first : View (Whole g.row.S.Denot) = view c.args.station.now (shows c.args.link.now) c.args.self.now.picture in
    let heard : View (Whole g.row.S.Denot)
    = view c.hear_all.new.station (shows c.hear_all.new.link) c.hear_all.new.self.picture in
    let after : View (Whole g.row.S.Denot) = view c.act.new.station (shows c.act.new.link) c.act.new.self.picture in
    both steps c.args.operator first heard after false c.in-Ok.ensures.looks c.in-Ok-act.ensures

pub returns-in-Err-act-clause-looks : goal.returns-in-Err-act-clause-looks
returns-in-Err-act-clause-looks g c =
    let s = g.S.Stable in
    let steps = StepsTo {S = g.row.S.Denot} s.is_honest s.is_open s.rows s.may_find s.saves s.failures s.doubts in
    let shows = shown_by g.L.DatagramLink.received g.L.DatagramLink.handed g.L.DatagramLink.failures
    g.L.DatagramLink.receives in
    let first : View (Whole g.row.S.Denot) = view c.args.station.now (shows c.args.link.now) c.args.self.now.picture in
    let heard : View (Whole g.row.S.Denot)
    = view c.hear_all.new.station (shows c.hear_all.new.link) c.hear_all.new.self.picture in
    let after : View (Whole g.row.S.Denot) = view c.act.new.station (shows c.act.new.link) c.act.new.self.picture in
    both steps c.args.operator first heard after true c.in-Ok.ensures.looks c.in-Err-act.ensures

pub returns-in-Ok-act-clause-asks : goal.returns-in-Ok-act-clause-asks
returns-in-Ok-act-clause-asks g c =
    let s = g.S.Stable in
    let steps = StepsTo {S = g.row.S.Denot} s.is_honest s.is_open s.rows s.may_find s.saves s.failures s.doubts in
    let shows = shown_by g.L.DatagramLink.received g.L.DatagramLink.handed g.L.DatagramLink.failures
    g.L.DatagramLink.receives in
    let heard : View (Whole g.row.S.Denot)
    = view c.hear_all.new.station (shows c.hear_all.new.link) c.hear_all.new.self.picture in
    let after : View (Whole g.row.S.Denot) = view c.act.new.station (shows c.act.new.link) c.act.new.self.picture in
    let first = c.in-Ok.ensures.asks in
    let more : heard.link.receives ≤ after.link.receives =
    looks_ask steps c.args.operator heard after false c.in-Ok-act.ensures in
    omega (arith, first, more)

pub returns-in-Err-act-clause-asks : goal.returns-in-Err-act-clause-asks
returns-in-Err-act-clause-asks g c =
    let s = g.S.Stable in
    let steps = StepsTo {S = g.row.S.Denot} s.is_honest s.is_open s.rows s.may_find s.saves s.failures s.doubts in
    let shows = shown_by g.L.DatagramLink.received g.L.DatagramLink.handed g.L.DatagramLink.failures
    g.L.DatagramLink.receives in
    let heard : View (Whole g.row.S.Denot)
    = view c.hear_all.new.station (shows c.hear_all.new.link) c.hear_all.new.self.picture in
    let after : View (Whole g.row.S.Denot) = view c.act.new.station (shows c.act.new.link) c.act.new.self.picture in
    let first = c.in-Ok.ensures.asks in
    let more : heard.link.receives ≤ after.link.receives =
    looks_ask steps c.args.operator heard after true c.in-Err-act.ensures in
    omega (arith, first, more)
