use Rattle.std.proofs.Common.{sym, ◌∙◌, arith}
use Rattle.smi_rows.proofs.Cutting.{cut-link, cut-none}
use Rattle.smi_rows.proofs.places.are_cut.Goals as goal

pub returns-in-None : goal.returns-in-None
returns-in-None c =
    sym (sym c.loop-i.invariant ∙ cut-none c.args.schema c.args.count c.loop-i.i c.loop-i.rest.now (omega arith)
    c.in-None.ensures)

pub loop-i-preserved : goal.loop-i-preserved
loop-i-preserved c = cut-link c.args.schema c.args.count c.loop-i.i c.loop-i.rest.now c.in-Some.size (omega arith)
    c.in-Some.ensures ∙ c.loop-i.invariant
