use Rattle.std.proofs.Common.{arith}
use Rattle.smi_schedule.proofs.Cuts.{too_long}
use Rattle.smi_schedule.proofs.lines.Lines.cut_read.Goals as goal

pub returns-then-length-clause-cut : goal.returns-then-length-clause-cut
returns-then-length-clause-cut c = λ later.
    too_long c.args.self.now.rest later (rw (← c.rest-rest.ensures) (omega arith))
    (rw (← c.rest-rest.ensures) (omega arith))
