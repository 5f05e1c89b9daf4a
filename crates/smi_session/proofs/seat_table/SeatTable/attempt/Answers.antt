use Rattle.std.proofs.Common.{ap, ◌∙◌, sym}
use Rattle.smi_session.proofs.Changing.{full_at, gave_at, stay}
use Rattle.smi_session.proofs.seat_table.SeatTable.attempt.Goals as goal

pub invariant_of-self : goal.invariant_of-self
invariant_of-self c = (
  stay c.self.inside.operators.items c.self.inside.queues.items c.in-Some.place c.give.new.self
      c.index_mut.result.now (c.in-Ok.ensures.given.0.0 ∙ ap (λ w. w.operator) c.index_mut.ensures.value)
      c.self.invariant.0,
  c.self.invariant.1,
)

pub invariant_of-self-in-Err : goal.invariant_of-self-in-Err
invariant_of-self-in-Err c = (
  stay c.self.inside.operators.items c.self.inside.queues.items c.in-Some.place c.give.new.self
      c.index_mut.result.now (c.in-Err.ensures.same.0.0 ∙ ap (λ w. w.operator) c.index_mut.ensures.value)
      c.self.invariant.0,
  c.self.invariant.1,
)

pub returns-in-Ok : goal.returns-in-Ok
returns-in-Ok c =
    let at = sym c.lane_of.ensures.place ∙ c.in-Some.is in
    let within = rw (← c.self.view_is) at c.in-Some.ensures.within in
    rw (← c.self.view_is) (gave_at c.args.order _ c.in-Some.place c.give.new.self c.index_mut.result.now
    (rw (← c.self.view_is) at at) within c.index_mut.ensures.value c.in-Ok.ensures.given)

pub returns-in-Err : goal.returns-in-Err
returns-in-Err c =
    let at = sym c.lane_of.ensures.place ∙ c.in-Some.is in
    let within = rw (← c.self.view_is) at c.in-Some.ensures.within in
    rw (← c.self.view_is) (full_at c.args.order _ c.in-Some.place c.give.new.self c.index_mut.result.now
    (rw (← c.self.view_is) at at) within c.index_mut.ensures.value c.in-Err.ensures.same)
