use Rattle.std.proofs.Common.{◌≡◌, ◌<◌, ◌∙◌, false, [], length, refl, subst, arith}
use Rattle.smi_station.specs.Readers.{Whole}
use Rattle.smi_node.specs.Carried.{StepsTo}
use Rattle.smi_node.specs.Linked.{shown_by}
use Rattle.smi_screen.specs.Looking.{Looks, View, view}
use Rattle.smi_screen.proofs.Looks.{both}
use Rattle.smi_screen.proofs.Turns.{one_more}
use Rattle.smi_screen.specs.Ending.{is_stopped}
use Rattle.smi_screen.proofs.server.ScreenServer.turns.Goals as goal

pub loop-init : goal.loop-init
loop-init g c = record { looks = ([], refl); turns = ([], refl, refl); operator = refl }

pub loop-preserved : goal.loop-preserved
loop-preserved g c =
    let s = g.S.Stable in
    let steps = StepsTo {S = g.row.S.Denot} s.is_honest s.is_open s.rows s.may_find s.saves s.failures s.doubts in
    let shows = shown_by g.L.DatagramLink.received g.L.DatagramLink.handed g.L.DatagramLink.failures
    g.L.DatagramLink.receives in
    let first : View (Whole g.row.S.Denot)
    = view c.args.station.now (shows c.args.link.now) c.args.self.now.observer.picture in
    let before : View (Whole g.row.S.Denot) = view c.loop.station (shows c.loop.link) c.loop.self.observer.picture in
    let after : View (Whole g.row.S.Denot)
    = view c.turn.new.station (shows c.turn.new.link) c.turn.new.self.observer.picture in
    let looks : Looks steps c.args.self.now.operator before after false
    = subst (λ o. Looks steps o before after false) c.loop.invariant.operator c.in-Ok.ensures.looks in
    let done = c.loop.invariant.turns in
    record {
      looks = both steps c.args.self.now.operator first before after false c.loop.invariant.looks looks;
      turns = one_more steps c.args.self.now.operator c.loop.counter first before after done.0 done.1 done.2 looks
          c.in-Ok.ensures.asks;
      operator = c.turn.ensures.operator ∙ c.loop.invariant.operator;
    }

pub returns-in-Err-clause-looks : goal.returns-in-Err-clause-looks
returns-in-Err-clause-looks g c =
    let s = g.S.Stable in
    let steps = StepsTo {S = g.row.S.Denot} s.is_honest s.is_open s.rows s.may_find s.saves s.failures s.doubts in
    let shows = shown_by g.L.DatagramLink.received g.L.DatagramLink.handed g.L.DatagramLink.failures
    g.L.DatagramLink.receives in
    let first : View (Whole g.row.S.Denot)
    = view c.args.station.now (shows c.args.link.now) c.args.self.now.observer.picture in
    let before : View (Whole g.row.S.Denot) = view c.loop.station (shows c.loop.link) c.loop.self.observer.picture in
    let after : View (Whole g.row.S.Denot)
    = view c.turn.new.station (shows c.turn.new.link) c.turn.new.self.observer.picture in
    let stopped = is_stopped c.in-Err.ended in
    both steps c.args.self.now.operator first before after stopped c.loop.invariant.looks
    (subst (λ o. Looks steps o before after stopped) c.loop.invariant.operator c.in-Err.ensures.looks)

pub returns-in-Err-clause-turns : goal.returns-in-Err-clause-turns
returns-in-Err-clause-turns g c =
    let s = g.S.Stable in
    let steps = StepsTo {S = g.row.S.Denot} s.is_honest s.is_open s.rows s.may_find s.saves s.failures s.doubts in
    let shows = shown_by g.L.DatagramLink.received g.L.DatagramLink.handed g.L.DatagramLink.failures
    g.L.DatagramLink.receives in
    let before : View (Whole g.row.S.Denot) = view c.loop.station (shows c.loop.link) c.loop.self.observer.picture in
    let after : View (Whole g.row.S.Denot)
    = view c.turn.new.station (shows c.turn.new.link) c.turn.new.self.observer.picture in
    let stopped = is_stopped c.in-Err.ended in
    let done = c.loop.invariant.turns in
    let few : length done.0 < c.args.turns =
    (let is = done.1 in let test = c.loop-test.true in omega (arith, is, test)) in (
      done.0,
      few,
      before,
      done.2,
      subst (λ o. Looks steps o before after stopped) c.loop.invariant.operator c.in-Err.ensures.looks,
    )

pub returns-clause-turns : goal.returns-clause-turns
returns-clause-turns g c =
    let done = c.loop.invariant.turns in
    let all : length done.0 ≡ c.args.turns =
    (let is = done.1 in let most = c.loop.auto.counter-end in let least = c.loop-test.false in
    omega (arith, is, most, least)) in
    (done.0, all, done.2)
