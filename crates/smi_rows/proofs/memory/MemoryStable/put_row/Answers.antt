use Rattle.smi_rows.proofs.Keys.{kept-rises}
use Rattle.smi_rows.proofs.memory.MemoryStable.put_row.Goals as goal

pub invariant_of-self-2 : goal.invariant_of-self-2
invariant_of-self-2 c = kept-rises c.put.result c.args.key c.in_ok-copy.copy.items c.self.inside.rows.items
    c.put.new.rows.items c.put.ensures.ok c.put.ensures.err c.self.invariant
