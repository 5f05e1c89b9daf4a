use Rattle.smi_station.specs.Readers.{Whole}
use Rattle.smi_node.specs.Carried.{StepsTo}
use Rattle.smi_node.specs.Linked.{shown_by}
use Rattle.smi_screen.specs.Looking.{View, has_stopped, view}
use Rattle.smi_screen.proofs.Keeping.{looks_keep}
use Rattle.smi_screen.proofs.observer.Observer.poll.Goals as goal

pub returns-clause-keeps : goal.returns-clause-keeps
returns-clause-keeps g c =
    let s = g.S.Stable in
    let steps = StepsTo {S = g.row.S.Denot} s.is_honest s.is_open s.rows s.may_find s.saves s.failures s.doubts in
    let shows = shown_by g.L.DatagramLink.received g.L.DatagramLink.handed g.L.DatagramLink.failures
    g.L.DatagramLink.receives in
    let first : View (Whole g.row.S.Denot) = view c.args.station.now (shows c.args.link.now) c.args.self.now.picture in
    let after : View (Whole g.row.S.Denot)
    = view c.hear_and_act.new.station (shows c.hear_and_act.new.link) c.hear_and_act.new.self.picture in
    looks_keep steps c.args.operator first after (has_stopped c.hear_and_act.result) c.hear_and_act.ensures.looks
