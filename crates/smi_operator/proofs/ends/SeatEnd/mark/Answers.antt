use Rattle.std.proofs.Common.{◌<◌, ◌-◌, ◌++◌, length, map, refl, ap, ◌∙◌, arith}
use Rattle.rtrb.specs.Ring.{sent}
use Rattle.smi_operator.specs.Working.{newest_marked, marked_by, order_told}
use Rattle.smi_operator.proofs.Changing.{written_orders, written_length}
use Rattle.smi_operator.proofs.ends.SeatEnd.mark.Goals as goal

pub invariant_of-self : goal.invariant_of-self
invariant_of-self c =
    let xs = c.args.self.now.work.items in
    let is = c.mark_newest.ensures ∙ ap (λ work. newest_marked work c.args.mark) c.as_mut_slice.ensures.value in
    let within : length xs - 1 < length xs = omega (arith, c.requires) in
    record {
      in_order =
          ap (λ orders. map order_told (sent c.args.self.now.answers) ++ orders)
          (written_orders (λ e. marked_by e c.args.mark) (length xs - 1) xs c.mark_newest.new.work within is
          (λ e. refl))
          ∙ c.args.self.now.in_order;
      size = c.args.self.now.size;
      few = rw (written_length (λ e. marked_by e c.args.mark) (length xs - 1) xs c.mark_newest.new.work within is)
          c.args.self.now.few;
      place = rw (written_length (λ e. marked_by e c.args.mark) (length xs - 1) xs c.mark_newest.new.work within is)
          c.args.self.now.place;
    }
