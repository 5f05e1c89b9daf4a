use Rattle.std.proofs.Common.{◌∙◌, arith}
use Rattle.smi_rows.proofs.Cutting.{several-is}
use Rattle.smi_rows.proofs.places.several_at.Goals as goal

pub returns : goal.returns
returns c = c.with_commands.ensures ∙ several-is c.args.b.now c.in_ok-oldest.oldest c.u16_at-others.result
    c.u16_at-others.ensures (omega arith) c.in_ok-oldest.ensures
