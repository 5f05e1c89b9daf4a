use Rattle.std.proofs.Common.{◌≡◌, ◌<◌, ◌∷◌, ◌∙◌, sym, ap, refl, Some, deque_len}
use Rattle.smi_session.proofs.Stepping.{tells_next}
use Rattle.smi_session.proofs.seat_queue.SeatQueue.next_answer.Goals as goal

-- the order that was looked for is the one that is taken
pub returns-clause-step : goal.returns-clause-step
returns-clause-step c =
    let some : 0 < deque_len c.self.inside.pending = c.in_ok-oldest.ensures.variant.0 refl in
    let is : c.pop_front.result ≡ Some c.in_ok-oldest.field-0.now
    = c.pop_front.ensures.value _ some ∙ ap Some (sym c.in_ok-oldest.ensures.lookup) in
    let left : c.self.inside.pending.items ≡ c.in_ok-oldest.field-0.now ∷ c.pop_front.new.self.items
    = rw is at c.pop_front.ensures.items in
    rw (← c.self.view_is) (tells_next _ _ c.in_ok-oldest.field-0.now c.in_ok-told.told left
    c.in_ok-told.ensures.submitted c.in_ok-told.ensures.some)
