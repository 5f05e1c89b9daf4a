use Rattle.std.proofs.Common.{◌≡◌, take}
use Rattle.std.specs.Io.KnownBytes.{Appends}
use Rattle.smi_commands.specs.Rows.{hex_text}
use Rattle.smi_commands.proofs.rows.write_hex.Given as goal

-- the bytes so far are written, and nothing was lost
abbrev pub invariant-loop-byte : goal.invariant-loop-byte
invariant-loop-byte g l = Appends (g.W.Write.contents l.fn.writer) (g.W.Write.contents l.writer)
    (hex_text (take l.byte-index l.bytes)) × (l.losses.count ≡ l.fn.losses.count)
