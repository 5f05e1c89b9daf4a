use Rattle.std.proofs.Common.{◌≤◌, take, length}
use Rattle.std.specs.Io.KnownBytes.{Appends}
use Rattle.smi_base.proofs.write.write_whole.Given as goal

abbrev pub invariant-tries : goal.invariant-tries
invariant-tries g l = record {
  within : l.at ≤ length l.bytes;
  written : Appends (g.W.Write.contents l.fn.writer) (g.W.Write.contents l.writer) (take l.at l.bytes);
}
