use Rattle.std.proofs.Common.{◌<◌, ◌∙◌, ap, length, get_or, arith}
use Rattle.smi_stable.proofs.SqlKeys.{shown-more}
use Rattle.smi_stable.proofs.shown.saved_rows.Goals as goal

pub loop-row-preserved : goal.loop-row-preserved
loop-row-preserved c k =
    let rows = c.args.rows.now.items in
    let long = ap length c.deref-row-items.ensures.value in
    let below : c.loop-row.row-index < length rows = omega arith in
    shown-more c.loop-row.list.items c.push.new.self.items rows c.loop-row.row-index c.row-item.result
    c.in_ok-saved.saved k below (c.row-item.is
    ∙ ap (λ xs. get_or xs c.loop-row.row-index c.row-item.result) c.deref-row-items.ensures.value)
    c.in_ok-saved.ensures c.in-Ok.ensures.items
    ∙ c.loop-row.invariant k
