use Rattle.std.proofs.Common.{◌∙◌, Bool, ap, sym}
use Rattle.smi_node.specs.Carried.{StepsTo, code_of, fault_in}
use Rattle.smi_node.specs.Linked.{shown_by}
use Rattle.smi_node.proofs.Carrying.{carried_not, carried_on}
use Rattle.smi_node.proofs.node.Node.carry.Goals as goal

pub returns-then-is_stopped_by-clause-carries : goal.returns-then-is_stopped_by-clause-carries
returns-then-is_stopped_by-clause-carries g c =
    let s = g.S.Stable in
    let steps = StepsTo {S = g.row.S.Denot} s.is_honest s.is_open s.rows s.may_find s.saves s.failures s.doubts in
    let shows = shown_by g.L.DatagramLink.received g.L.DatagramLink.handed g.L.DatagramLink.failures
    g.L.DatagramLink.receives in
    let made = c.step-made in
    carried_not steps c.args.self.now.operators.now c.args.input.event c.args.input.seat made.new.out
    c.args.self.now.station.now made.new.station (shows c.args.link.now) (shows c.send_of.new.link)
    c.args.self.now.desk.now c.args.self.now.board.now (g.V.StepObserver.seen c.args.observer.now)
    (g.V.StepObserver.seen c.on_step.new.self) made.result made.ensures c.send_of.ensures c.on_step.ensures
    (sym c.is_stopped_by.ensures ∙ c.if-is_stopped_by.true)

pub returns-clause-carries : goal.returns-clause-carries
returns-clause-carries g c =
    let s = g.S.Stable in
    let steps = StepsTo {S = g.row.S.Denot} s.is_honest s.is_open s.rows s.may_find s.saves s.failures s.doubts in
    let shows = shown_by g.L.DatagramLink.received g.L.DatagramLink.handed g.L.DatagramLink.failures
    g.L.DatagramLink.receives in
    let made = c.step-made in
    carried_on steps c.args.self.now.operators.now c.args.input.event c.args.input.seat c.code_of.result
    c.asker_of-asker.result made.new.out
    c.args.self.now.station.now made.new.station (shows c.args.link.now) (shows c.send_of.new.link)
    c.args.self.now.desk.now c.follow.new.desk c.args.self.now.board.now c.follow.new.board
    (g.V.StepObserver.seen c.args.observer.now) (g.V.StepObserver.seen c.on_step.new.self) made.result
    (fault_in c.follow.result) made.ensures c.send_of.ensures c.on_step.ensures
    (sym c.is_stopped_by.ensures ∙ c.if-is_stopped_by.false)
    (c.code_of.ensures ∙ ap (λ (b : Bool). code_of b made.result) c.is_report-is_report.ensures)
    c.asker_of-asker.ensures c.follow.ensures
