use Rattle.std.proofs.Common.{◌≡◌, ◌*◌, length, take, drop}
use Rattle.smi_commands.proofs.Going.{Leads, Tells}
use Rattle.smi_commands.proofs.answer.answer_each.Given as goal

abbrev pub invariant-pieces : goal.invariant-pieces
invariant-pieces l = record {
  long : length l.told ≡ 65536;
  leads : Leads l.fn.keeper l.bytes l.keeper l.count (drop (l.count * 44) l.bytes) (take (l.count * 44) l.told);
  tells : Tells l.fn.keeper (take (l.count * 44) l.bytes) l.keeper (take (l.count * 44) l.told);
}
