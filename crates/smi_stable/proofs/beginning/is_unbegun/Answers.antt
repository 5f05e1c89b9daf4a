use Rattle.std.proofs.Common.{◌∙◌, ap, arith, sym}
use Rattle.smi_stable.specs.Beginning.{is_part_of, is_unbegun}
use Rattle.smi_stable.proofs.Same.{held}
use Rattle.smi_stable.proofs.beginning.is_unbegun.Goals as goal

pub returns-clause-part : goal.returns-clause-part
returns-clause-part g c = λ clean same.
    let read = c.read_at.new.buf in
    let kept = c.read_at.auto.buf in
    let file = held (g.D.Disk.seen c.args.db.now) read
    (λ some. c.in_ok-read_at.ensures.read clean (omega (arith, some, kept))) (omega (arith, same, kept)) in
    c.is_part_of.ensures ∙ ap (is_part_of read) c.first_page.ensures ∙ ap is_unbegun (sym file)
