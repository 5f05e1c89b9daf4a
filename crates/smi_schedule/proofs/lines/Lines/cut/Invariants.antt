use Rattle.std.specs.Io.KnownBytes.{Keeps}
use Rattle.smi_schedule.specs.Lines.{left}
use Rattle.smi_schedule.proofs.lines.Lines.cut.Given as goal

-- what is left of the text is what was left
abbrev pub invariant-loop-cut : goal.invariant-loop-cut
invariant-loop-cut g l = Keeps (left l.initial.self (g.R.Read.remaining l.initial.reader))
    (left l.self (g.R.Read.remaining l.reader))

abbrev pub decreases-loop-cut : goal.decreases-loop-cut
decreases-loop-cut g l = l.self.reads
