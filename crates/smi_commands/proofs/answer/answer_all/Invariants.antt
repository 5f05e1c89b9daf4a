use Rattle.std.proofs.Common.{◌≡◌, ◌≤◌, ◌<◌, ◌*◌, length, take}
use Rattle.smi_commands.proofs.Going.{Goes}
use Rattle.smi_commands.proofs.answer.answer_all.Given as goal

abbrev pub invariant-reads : goal.invariant-reads
invariant-reads g l =
    let remaining = g.R.Read.remaining in
    let contents = g.W.Write.contents in
    record {
      long : length l.block ≡ 65536;
      long_told : length l.told ≡ 65536;
      within : l.rest < 44;
      counted : l.count ≤ l.counter * 1490;
      going : Goes (remaining l.fn.reader) (remaining l.reader) (take l.rest l.block) l.keeper l.count
          (contents l.fn.writer) (contents l.writer);
    }
