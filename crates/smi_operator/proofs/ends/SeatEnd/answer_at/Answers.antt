use Rattle.std.proofs.Common.{refl, ap, ◌∙◌}
use Rattle.rtrb.specs.Ring.{sent, received}
use Rattle.smi_operator.specs.Working.{most_work, ended_at, ended_by, ending}
use Rattle.smi_operator.proofs.Changing.{written_orders, written_length, answered_in_order, answered_few}
use Rattle.smi_operator.proofs.ends.SeatEnd.answer_at.Goals as goal

pub invariant_of-self : goal.invariant_of-self
invariant_of-self c =
    let xs = c.args.self.now.work.items in
    let x = ending c.args.code c.args.asked in
    let is = c.end_at.ensures ∙ ap (λ work. ended_at work c.args.place x) c.as_mut_slice.ensures.value in
    record {
      in_order =
          answered_in_order (sent c.args.self.now.answers) (sent c.hand_out.new.answers) xs _
          c.hand_out.new.work.items (received c.args.self.now.orders)
          c.args.self.now.in_order
          (written_orders (λ e. ended_by e x) c.args.place xs c.end_at.new.work c.requires is (λ e. refl))
          c.hand_out.ensures.sent
          c.hand_out.ensures.work;
      size = c.hand_out.ensures.ring.1 ∙ c.args.self.now.size;
      few =
          answered_few xs _ c.hand_out.new.work.items most_work c.args.self.now.few
          (written_length (λ e. ended_by e x) c.args.place xs c.end_at.new.work c.requires is)
          c.hand_out.ensures.work;
      place = c.hand_out.ensures.room;
    }
