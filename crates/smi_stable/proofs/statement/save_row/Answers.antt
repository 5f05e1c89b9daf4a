use Rattle.std.proofs.Common.{ap}
use Rattle.sqlite.specs.Effect.{Database}
use Rattle.smi_stable.specs.SqlReady.{rows_in}
use Rattle.sqlite.specs.Held.{state}
use Rattle.smi_stable.proofs.SqlKeeps.{fails, still, clean_before, saves, crashes}
use Rattle.smi_stable.proofs.statement.save_row.Goals as goal

pub returns-in-Ok-clause-ready : goal.returns-in-Ok-clause-ready
returns-in-Ok-clause-ready g c ready clean =
    let old = state g.S.Store c.args.conn.now in
    let new = state g.S.Store c.put.new.conn in
    let before = ready (clean_before old new _ c.put.ensures.survives clean) in
    let s = saves old new c.args.key c.args.bytes.now c.in-Ok.field-0 before.0 before.1 c.put.ensures.live
    (c.in-Ok.ensures.runs clean) in
    (s.0, λ live. s.2)

pub returns-in-Ok-clause-saved : goal.returns-in-Ok-clause-saved
returns-in-Ok-clause-saved g c ready clean =
    let old = state g.S.Store c.args.conn.now in
    let new = state g.S.Store c.put.new.conn in
    let before = ready (clean_before old new _ c.put.ensures.survives clean) in
    let s = saves old new c.args.key c.args.bytes.now c.in-Ok.field-0 before.0 before.1 c.put.ensures.live
    (c.in-Ok.ensures.runs clean) in
    (s.1, s.3)

pub returns-in-Ok-clause-crash : goal.returns-in-Ok-clause-crash
returns-in-Ok-clause-crash g c ready clean live =
    let old = state g.S.Store c.args.conn.now in
    let new = state g.S.Store c.put.new.conn in
    let before = ready (clean_before old new _ c.put.ensures.survives clean) in
    crashes old new c.args.key c.args.bytes.now live c.put.ensures.live (before.1 live)
    (λ db may. g.met.S.Store.settled c.args.conn.now.store db live may) clean c.put.ensures.survives

pub returns-in-Err-clause-ready : goal.returns-in-Err-clause-ready
returns-in-Err-clause-ready g c ready clean =
    let old = state g.S.Store c.args.conn.now in
    let new = state g.S.Store c.put.new.conn in
    let before = ready (clean_before old new _ c.put.ensures.survives clean) in
    let s = still old new before.0 before.1 (fails old new _ _ c.in-Err.error (c.in-Err.ensures.runs clean)) in
    (s.0, λ live. (s.1 live).0)

pub returns-in-Err-clause-still : goal.returns-in-Err-clause-still
returns-in-Err-clause-still g c ready clean live =
    let old = state g.S.Store c.args.conn.now in
    let new = state g.S.Store c.put.new.conn in
    let before = ready (clean_before old new _ c.put.ensures.survives clean) in
    let s = still old new before.0 before.1 (fails old new _ _ c.in-Err.error (c.in-Err.ensures.runs clean)) in
    (λ k. ap (λ (d : Database). rows_in d.trees k) (s.1 live).1)

pub returns-in-Err-clause-crash : goal.returns-in-Err-clause-crash
returns-in-Err-clause-crash g c ready clean live =
    let old = state g.S.Store c.args.conn.now in
    let new = state g.S.Store c.put.new.conn in
    let before = ready (clean_before old new _ c.put.ensures.survives clean) in
    crashes old new c.args.key c.args.bytes.now live c.put.ensures.live (before.1 live)
    (λ db may. g.met.S.Store.settled c.args.conn.now.store db live may) clean c.put.ensures.survives

pub returns-in-Ok-clause-clean : goal.returns-in-Ok-clause-clean
returns-in-Ok-clause-clean g c clean = clean_before (state g.S.Store c.args.conn.now)
    (state g.S.Store c.put.new.conn) _ c.put.ensures.survives clean

pub returns-in-Err-clause-clean : goal.returns-in-Err-clause-clean
returns-in-Err-clause-clean g c clean = clean_before (state g.S.Store c.args.conn.now)
    (state g.S.Store c.put.new.conn) _ c.put.ensures.survives clean
