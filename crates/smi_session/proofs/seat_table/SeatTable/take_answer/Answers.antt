use Rattle.std.proofs.Common.{arith, ap, ◌∙◌}
use Rattle.smi_session.proofs.Changing.{stay, took_at}
use Rattle.smi_session.specs.SeatTable.{TakesAnswer}
use Rattle.smi_session.proofs.seat_table.SeatTable.take_answer.Goals as goal

pub invariant_of-self : goal.invariant_of-self
invariant_of-self c = (
  stay c.self.inside.operators.items c.self.inside.queues.items c.args.place c.next_answer.new.self
      c.index_mut-queue.result.now
      (c.next_answer.ensures.operator ∙ ap (λ w. w.operator) c.index_mut-queue.ensures.value)
      c.self.invariant.0,
  c.self.invariant.1,
)

pub invariant_of-self-2 : goal.invariant_of-self-2
invariant_of-self-2 c = (
  stay c.self.inside.operators.items c.self.inside.queues.items c.args.place c.next_answer.new.self
      c.index_mut-queue.result.now
      (c.next_answer.ensures.operator ∙ ap (λ w. w.operator) c.index_mut-queue.ensures.value)
      c.self.invariant.0,
  c.self.invariant.1,
)

pub returns-clause-some : goal.returns-clause-some
returns-clause-some c =
    rw (← c.self.view_is) (took_at (TakesAnswer _) _ c.args.place c.next_answer.new.self
    c.index_mut-queue.result.now (omega arith) c.index_mut-queue.ensures.value (
      c.in_ok-pending.ensures.some,
      c.operator-operator.ensures,
    ))
