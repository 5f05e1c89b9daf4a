use Rattle.std.proofs.Common.{take}
use Rattle.std.specs.Io.KnownBytes.{Appends}
use Rattle.smi_schedule.specs.Text.{trace_text}
use Rattle.smi_schedule.proofs.write.write_lines.Given as goal

-- the lines so far are written
abbrev pub invariant-loop-line : goal.invariant-loop-line
invariant-loop-line g l = Appends (g.W.Write.contents l.fn.writer) (g.W.Write.contents l.writer)
    (trace_text l.tree (take l.line-index l.lines))
