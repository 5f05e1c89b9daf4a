use Rattle.std.proofs.Common.{ap, sym, ◌∙◌}
use Rattle.smi_view.proofs.Counting.{moves}
use Rattle.smi_view.proofs.history.Rows.with.Goals as goal

pub compare_exchange-found-requires : goal.compare_exchange-found-requires
compare_exchange-found-requires g c =
    let counter = c.args.counter.now.counter_is in
    let offer = c.plain-offer.ensures in
    let pen = c.no_pen-pen.ensures in
    let seen = c.again-seen.ensures in
    let book = ap (λ s. s.book) seen ∙ (c.self.invariant.1 ∙ sym (ap (λ w. w.book) counter)) in (
      ap (λ w. w.tracked) counter,
      book,
      pen.0 ∙ book,
      offer.0,
      rw (ap (λ w. w.key) counter, pen.1, offer.1, offer.3, seen)
          (moves c.self.inside.seen.log c.args.row c.self.inside.count (sym c.self.invariant.0)),
    )
