use Rattle.std.proofs.lemmas.Result.{err_from_is_err_and}
use Rattle.sqlite.specs.Held.{state}
use Rattle.smi_stable.proofs.SqlAdopts.{adopted-still}
use Rattle.smi_stable.proofs.sqlite_stable.SqliteStable.adopt.Goals as goal

pub returns-clause-adopted : goal.returns-clause-adopted
returns-clause-adopted g c clean =
    adopted-still (state g.S.Store c.args.connection) (state g.S.Store c.in_ok-conn.conn)
    (state g.S.Store c.test_open.new.conn) (c.in_ok-conn.ensures.adopted (c.test_open.ensures.clean clean))
    (c.in-Ok.ensures.unchanged clean)

pub returns-in_err-conn-clause-reason : goal.returns-in_err-conn-clause-reason
returns-in_err-conn-clause-reason g c =
    let p = err_from_is_err_and c.from_residual.result c.from_residual.ensures.1 in
    rw (p.1, p.2) c.in_err-conn.ensures.reason
