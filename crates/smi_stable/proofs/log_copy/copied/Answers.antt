use Rattle.sqlite.specs.Held.{state}
use Rattle.smi_stable.proofs.SqlCopies.{committed-rows, reopened-rows}
use Rattle.smi_stable.proofs.log_copy.copied.Goals as goal

pub returns-in-Ok-clause-crash : goal.returns-in-Ok-clause-crash
returns-in-Ok-clause-crash g c = rw c.in-Open.is (λ ready shut clean live db may.
    let r = c.in-Ok.ensures.reopened clean ready in
    reopened-rows (state g.S.Store c.in-Open.conn) (state g.S.Store c.in-Ok.conn) r db
    (g.met.S.Store.settled c.in-Ok.conn.store db r.is_open may))

pub returns-in-Err-clause-crash : goal.returns-in-Err-clause-crash
returns-in-Err-clause-crash g c = rw c.in-Open.is (λ ready shut clean live db may.
    committed-rows (state g.S.Store c.in-Open.conn) live (c.in-Err.ensures.left clean) ready db
    (g.met.S.Store.settled c.in-Open.conn.store db live (c.in-Err.ensures.crash clean db may)))
