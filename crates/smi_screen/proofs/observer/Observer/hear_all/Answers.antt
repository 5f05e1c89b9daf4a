use Rattle.std.proofs.Common.{◌≤◌, arith}
use Rattle.smi_station.specs.Readers.{Whole}
use Rattle.smi_node.specs.Carried.{StepsTo}
use Rattle.smi_node.specs.Linked.{shown_by}
use Rattle.smi_screen.specs.Looking.{View, has_stopped, view}
use Rattle.smi_screen.proofs.Asked.{looks_ask}
use Rattle.smi_screen.proofs.Looks.{both}
use Rattle.smi_screen.proofs.observer.Observer.hear_all.Goals as goal

pub returns-then-eq-clause-looks : goal.returns-then-eq-clause-looks
returns-then-eq-clause-looks g c =
    let s = g.S.Stable in
    let steps = StepsTo {S = g.row.S.Denot} s.is_honest s.is_open s.rows s.may_find s.saves s.failures s.doubts in
    let shows = shown_by g.L.DatagramLink.received g.L.DatagramLink.handed g.L.DatagramLink.failures
    g.L.DatagramLink.receives in
    let first : View (Whole g.row.S.Denot) = view c.args.station.now (shows c.args.link.now) c.args.self.now.picture in
    let heard : View (Whole g.row.S.Denot) = view c.hear.new.station (shows c.hear.new.link) c.hear.new.self.picture in
    let after : View (Whole g.row.S.Denot)
    = view c.hear_more.new.station (shows c.hear_more.new.link) c.hear_more.new.self.picture in
    both steps c.args.operator first heard after (has_stopped c.hear_more.result) c.in-Ok.ensures.looks
    c.hear_more.ensures

pub returns-then-eq-clause-asks : goal.returns-then-eq-clause-asks
returns-then-eq-clause-asks g c =
    let s = g.S.Stable in
    let steps = StepsTo {S = g.row.S.Denot} s.is_honest s.is_open s.rows s.may_find s.saves s.failures s.doubts in
    let shows = shown_by g.L.DatagramLink.received g.L.DatagramLink.handed g.L.DatagramLink.failures
    g.L.DatagramLink.receives in
    let heard : View (Whole g.row.S.Denot) = view c.hear.new.station (shows c.hear.new.link) c.hear.new.self.picture in
    let after : View (Whole g.row.S.Denot)
    = view c.hear_more.new.station (shows c.hear_more.new.link) c.hear_more.new.self.picture in
    let first = c.in-Ok.ensures.asks in
    let more : heard.link.receives ≤ after.link.receives =
    looks_ask steps c.args.operator heard after (has_stopped c.hear_more.result) c.hear_more.ensures in
    omega (arith, first, more)
