use Rattle.std.proofs.Common.{◌∙◌, sym}
use Rattle.smi_node.specs.Carried.{StepsTo}
use Rattle.smi_node.specs.Linked.{shown_by}
use Rattle.smi_screen.proofs.Carries.{carried_not, carried_on}
use Rattle.smi_screen.proofs.observer.Observer.carry.Goals as goal

pub returns-then-is_stopped_by : goal.returns-then-is_stopped_by
returns-then-is_stopped_by g c =
    let s = g.S.Stable in
    let steps = StepsTo {S = g.row.S.Denot} s.is_honest s.is_open s.rows s.may_find s.saves s.failures s.doubts in
    let shows = shown_by g.L.DatagramLink.received g.L.DatagramLink.handed g.L.DatagramLink.failures
    g.L.DatagramLink.receives in
    let made = c.step_and_send-made in
    carried_not steps c.args.event c.args.self.now.now made.new.out c.args.station.now made.new.station
    (shows c.args.link.now) (shows made.new.link) c.args.self.now.picture made.result made.ensures.steps
    made.ensures.sends (sym c.is_stopped_by.ensures ∙ c.if-is_stopped_by.true)

pub returns : goal.returns
returns g c =
    let s = g.S.Stable in
    let steps = StepsTo {S = g.row.S.Denot} s.is_honest s.is_open s.rows s.may_find s.saves s.failures s.doubts in
    let shows = shown_by g.L.DatagramLink.received g.L.DatagramLink.handed g.L.DatagramLink.failures
    g.L.DatagramLink.receives in
    let made = c.step_and_send-made in
    carried_on steps c.args.event c.args.self.now.now made.new.out c.args.station.now made.new.station
    (shows c.args.link.now) (shows made.new.link) c.args.self.now.picture c.record_handed.new.picture made.result
    made.ensures.steps made.ensures.sends (sym c.is_stopped_by.ensures ∙ c.if-is_stopped_by.false)
    c.record_handed.ensures
