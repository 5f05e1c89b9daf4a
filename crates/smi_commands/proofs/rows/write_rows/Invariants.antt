use Rattle.std.proofs.Common.{◌≡◌, take}
use Rattle.std.specs.Io.KnownBytes.{Appends}
use Rattle.smi_commands.specs.Rows.{rows_text}
use Rattle.smi_commands.proofs.rows.write_rows.Given as goal

-- the rows so far are written, and nothing was lost
abbrev pub invariant-loop-row : goal.invariant-loop-row
invariant-loop-row g l = Appends (g.W.Write.contents l.fn.writer) (g.W.Write.contents l.writer)
    (rows_text (take l.row-index l.rows)) × (l.losses.count ≡ l.fn.losses.count)
