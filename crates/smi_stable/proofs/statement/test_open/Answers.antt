use Rattle.std.proofs.Common.{[], sym, subst}
use Rattle.sqlite.specs.Held.{state}
use Rattle.smi_stable.specs.SqlFault.{HasReason}
use Rattle.smi_stable.proofs.SqlCauses.{prepared}
use Rattle.smi_stable.proofs.SqlKeeps.{still, not_run, clean_before, opened}
use Rattle.smi_stable.proofs.statement.test_open.Goals as goal

pub returns-in-Err-clause-ready : goal.returns-in-Err-clause-ready
returns-in-Err-clause-ready g c before clean =
    let old = state g.S.Store c.args.conn.now in
    let new = state g.S.Store c.prepare.new.self in
    let b = before (clean_before old new _ c.prepare.ensures.survives clean) in
    let s = still old new b.0 b.1 (not_run old new _ [] c.in-Err.error (c.in-Err.ensures.err clean [])) in
    (s.0, λ live. (s.1 live).0)

pub returns-in-Err-clause-still : goal.returns-in-Err-clause-still
returns-in-Err-clause-still g c before clean live =
    let old = state g.S.Store c.args.conn.now in
    let new = state g.S.Store c.prepare.new.self in
    let b = before (clean_before old new _ c.prepare.ensures.survives clean) in
    let h = not_run old new _ [] c.in-Err.error (c.in-Err.ensures.err clean []) in
    let s = still old new b.0 b.1 h in
    (opened old new h live, (s.1 live).1)

pub returns-in-Err-clause-undone : goal.returns-in-Err-clause-undone
returns-in-Err-clause-undone g c clean = not_run (state g.S.Store c.args.conn.now)
    (state g.S.Store c.prepare.new.self) _ [] c.in-Err.error (c.in-Err.ensures.err clean [])

pub returns-in-Err-clause-reason : goal.returns-in-Err-clause-reason
returns-in-Err-clause-reason g c clean live has =
    let old = state g.S.Store c.args.conn.now in
    let new = state g.S.Store c.prepare.new.self in
    subst (HasReason old new) (sym c.fault_of.ensures.value)
    (prepared old new c.in-Err.error has live (c.in-Err.ensures.err clean))
