use Rattle.std.proofs.Common.{◌∙◌, inr}
use Rattle.smi_rows.proofs.Keys.{put-found}
use Rattle.smi_rows.proofs.memory.MemoryStableStable.save.Goals as goal

pub returns-in-Ok-clause-saved : goal.returns-in-Ok-clause-saved
returns-in-Ok-clause-saved c = λ honest. (
  tt,
  put-found c.args.key c.args.bytes.now c.args.self.now.list c.put_row.new.self.list c.in-Ok.ensures.ok,
)

pub returns-in-Ok-clause-crash : goal.returns-in-Ok-clause-crash
returns-in-Ok-clause-crash c = λ honest live r may. inr
    (λ k. may k ∙ put-found c.args.key c.args.bytes.now c.args.self.now.list c.put_row.new.self.list
    c.in-Ok.ensures.ok k)
