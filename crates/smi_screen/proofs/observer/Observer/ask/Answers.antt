use Rattle.smi_station.specs.Readers.{Whole}
use Rattle.smi_node.specs.Carried.{StepsTo}
use Rattle.smi_node.specs.Linked.{shown_by}
use Rattle.smi_screen.specs.Looking.{Asks, View, has_stopped, view}
use Rattle.smi_screen.proofs.Looks.{one}
use Rattle.smi_screen.proofs.observer.Observer.ask.Goals as goal

pub returns : goal.returns
returns g c =
    let s = g.S.Stable in
    let steps = StepsTo {S = g.row.S.Denot} s.is_honest s.is_open s.rows s.may_find s.saves s.failures s.doubts in
    let shows = shown_by g.L.DatagramLink.received g.L.DatagramLink.handed g.L.DatagramLink.failures
    g.L.DatagramLink.receives in
    let before : View (Whole g.row.S.Denot) = view c.args.station.now (shows c.args.link.now) c.args.self.now.picture in
    let after : View (Whole g.row.S.Denot)
    = view c.carry_whatever.new.station (shows c.carry_whatever.new.link) c.carry_whatever.new.self.picture in
    one steps c.args.operator c.args.self.now.now (Asks c.args.domain)
    before after (has_stopped c.carry_whatever.result)
    c.carry_whatever.ensures
