use Rattle.smi_stable.proofs.SqlCopies.{fresh}
use Rattle.smi_stable.proofs.log_copy.with_log_copied.Goals as goal

pub returns-clause-fresh : goal.returns-clause-fresh
returns-clause-fresh g c clean sound =
    let view = g.S.Store.view in
    let back = c.into_store-store.ensures in
    (fresh (view c.args.conn.store) (view c.into_store-store.result) (view c.copy_log.new.self)
    (g.met.S.Store.broken_if_shut c.copy_log.new.self) back.undone back.numbered c.copy_log.ensures.same clean sound).0

pub returns-clause-open : goal.returns-clause-open
returns-clause-open g c clean sound =
    let view = g.S.Store.view in
    let back = c.into_store-store.ensures in
    (fresh (view c.args.conn.store) (view c.into_store-store.result) (view c.copy_log.new.self)
    (g.met.S.Store.broken_if_shut c.copy_log.new.self) back.undone back.numbered c.copy_log.ensures.same clean sound).1

pub returns-clause-trees : goal.returns-clause-trees
returns-clause-trees g c clean sound =
    let view = g.S.Store.view in
    let back = c.into_store-store.ensures in
    (fresh (view c.args.conn.store) (view c.into_store-store.result) (view c.copy_log.new.self)
    (g.met.S.Store.broken_if_shut c.copy_log.new.self) back.undone back.numbered c.copy_log.ensures.same clean sound).2
