use Rattle.std.proofs.Common.{◌∙◌, false, [], refl, subst}
use Rattle.smi_station.specs.Readers.{Whole}
use Rattle.smi_node.specs.Carried.{StepsTo}
use Rattle.smi_node.specs.Linked.{shown_by}
use Rattle.smi_screen.specs.Looking.{Looks, View, view}
use Rattle.smi_screen.proofs.Looks.{both}
use Rattle.smi_screen.proofs.Turns.{all_after, fault_after}
use Rattle.smi_screen.specs.Ending.{is_stopped}
use Rattle.smi_screen.proofs.server.ScreenServer.serve.Goals as goal

pub loop-init : goal.loop-init
loop-init g c = record { looks = ([], refl); turns = ([], refl); operator = refl }

pub loop-preserved : goal.loop-preserved
loop-preserved g c =
    let s = g.S.Stable in
    let steps = StepsTo {S = g.row.S.Denot} s.is_honest s.is_open s.rows s.may_find s.saves s.failures s.doubts in
    let shows = shown_by g.L.DatagramLink.received g.L.DatagramLink.handed g.L.DatagramLink.failures
    g.L.DatagramLink.receives in
    let first : View (Whole g.row.S.Denot)
    = view c.args.station.now (shows c.args.link.now) c.args.self.now.observer.picture in
    let before : View (Whole g.row.S.Denot) = view c.loop.station (shows c.loop.link) c.loop.self.observer.picture in
    let after : View (Whole g.row.S.Denot)
    = view c.turns.new.station (shows c.turns.new.link) c.turns.new.self.observer.picture in
    record {
      looks = both steps c.args.self.now.operator first before after false c.loop.invariant.looks
          (subst (λ o. Looks steps o before after false) c.loop.invariant.operator c.in-Ok.ensures.looks);
      turns = all_after steps c.args.self.now.operator c.loop.self.operator _ first before after
          c.loop.invariant.operator c.loop.invariant.turns c.in-Ok.ensures.turns;
      operator = c.turns.ensures.operator ∙ c.loop.invariant.operator;
    }

pub returns-in-Err-clause-looks : goal.returns-in-Err-clause-looks
returns-in-Err-clause-looks g c =
    let s = g.S.Stable in
    let steps = StepsTo {S = g.row.S.Denot} s.is_honest s.is_open s.rows s.may_find s.saves s.failures s.doubts in
    let shows = shown_by g.L.DatagramLink.received g.L.DatagramLink.handed g.L.DatagramLink.failures
    g.L.DatagramLink.receives in
    let first : View (Whole g.row.S.Denot)
    = view c.args.station.now (shows c.args.link.now) c.args.self.now.observer.picture in
    let before : View (Whole g.row.S.Denot) = view c.loop.station (shows c.loop.link) c.loop.self.observer.picture in
    let after : View (Whole g.row.S.Denot)
    = view c.turns.new.station (shows c.turns.new.link) c.turns.new.self.observer.picture in
    let stopped = is_stopped c.in-Err.ended in
    both steps c.args.self.now.operator first before after stopped c.loop.invariant.looks
    (subst (λ o. Looks steps o before after stopped) c.loop.invariant.operator c.in-Err.ensures.looks)

pub returns-in-Err-clause-turns : goal.returns-in-Err-clause-turns
returns-in-Err-clause-turns g c =
    let s = g.S.Stable in
    let steps = StepsTo {S = g.row.S.Denot} s.is_honest s.is_open s.rows s.may_find s.saves s.failures s.doubts in
    let shows = shown_by g.L.DatagramLink.received g.L.DatagramLink.handed g.L.DatagramLink.failures
    g.L.DatagramLink.receives in
    let first : View (Whole g.row.S.Denot)
    = view c.args.station.now (shows c.args.link.now) c.args.self.now.observer.picture in
    let before : View (Whole g.row.S.Denot) = view c.loop.station (shows c.loop.link) c.loop.self.observer.picture in
    let after : View (Whole g.row.S.Denot)
    = view c.turns.new.station (shows c.turns.new.link) c.turns.new.self.observer.picture in
    rw c.in_default.is (fault_after steps c.args.self.now.operator c.loop.self.operator _ first before after
    c.in-Err.ended c.loop.invariant.operator c.loop.invariant.turns c.in-Err.ensures.turns)
