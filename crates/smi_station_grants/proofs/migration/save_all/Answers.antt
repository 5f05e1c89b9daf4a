use Rattle.std.proofs.Common.{◌+◌, inl, inr, List, refl, ap, ◌∙◌, arith}
use Rattle.std.proofs.lemmas.List.{take_all}
use Rattle.std.proofs.lemmas.Result.{err_from_is_err_and}
use Rattle.smi_rows.specs.Store.{Saved}
use Rattle.smi_station_grants.specs.Migrating.{over}
use Rattle.smi_station_grants.proofs.Saving.{certain_then, doubt_then, either_way, failed_more, one_more, sure_then}
use Rattle.smi_station_grants.proofs.Saving.{unfailed_then}
use Rattle.smi_station_grants.proofs.migration.save_all.Goals as goal

pub returns-in_err-save_row-clause-certain : goal.returns-in_err-save_row-clause-certain
returns-in_err-save_row-clause-certain g c = λ honest live.
    let p = err_from_is_err_and c.from_residual.result c.from_residual.ensures.1 in
    let e = c.in_err-save_row.ensures in
    let before = c.loop-row.invariant.rows (e.honest honest) live in
    rw (p.1, p.2) (certain_then (Unit {0}) (Unit {0}) _ _ c.in_err-save_row.field-0.0 (e.kept honest before.0))

pub returns-in_err-save_row-clause-partly : goal.returns-in_err-save_row-clause-partly
returns-in_err-save_row-clause-partly g c = λ honest live still.
    let e = c.in_err-save_row.ensures in
    let i = c.loop-row.row-index in
    let rows = g.S.Stable.rows c.args.store.now in
    let before = c.loop-row.invariant.rows (e.honest honest) live in
    either_way (Unit {0}) (Unit {0}) _ _ _ _ c.in_err-save_row.field-0.0 (e.kept honest before.0)
    (e.unsure honest still)
    (λ a. record { count = i; rows = λ k. a k ∙ before.1 k })
    (λ b. record {
      count = i + 1;
      rows = one_more rows c.args.rows.now i c.row-item.result c.loop-row-test.true
          c.row-item.is (g.S.Stable.rows c.loop-row.store) (g.S.Stable.rows c.save_row.new.store) before.1 b;
    })

pub returns-in_err-save_row-clause-crash : goal.returns-in_err-save_row-clause-crash
returns-in_err-save_row-clause-crash g c = λ honest live r may.
    let e = c.in_err-save_row.ensures in
    let i = c.loop-row.row-index in
    let rows = g.S.Stable.rows c.args.store.now in
    let before = c.loop-row.invariant.rows (e.honest honest) live in
    elim (e.crash honest before.0 r may) [
      | inl a ↦ record { count = i; rows = λ k. a k ∙ before.1 k }
      | inr b ↦ record {
        count = i + 1;
        rows = one_more rows c.args.rows.now i c.row-item.result c.loop-row-test.true
            c.row-item.is (g.S.Stable.rows c.loop-row.store) r before.1 b;
      }
    ]

pub returns-in_err-save_row-clause-honest : goal.returns-in_err-save_row-clause-honest
returns-in_err-save_row-clause-honest g c =
    λ honest. c.loop-row.invariant.honest (c.in_err-save_row.ensures.honest honest)

pub returns-in_err-save_row-clause-failures : goal.returns-in_err-save_row-clause-failures
returns-in_err-save_row-clause-failures g c =
    omega (arith, c.loop-row.invariant.failures, c.in_err-save_row.ensures.failures)

pub returns-in_err-save_row-clause-cause : goal.returns-in_err-save_row-clause-cause
returns-in_err-save_row-clause-cause g c =
    let p = err_from_is_err_and c.from_residual.result c.from_residual.ensures.1 in
    rw (p.1, p.2)
    (failed_more (Unit {0}) (Unit {0}) c.in_err-save_row.field-0.0 (g.S.Stable.failures c.args.store.now)
    (g.S.Stable.failures c.loop-row.store) (g.S.Stable.failures c.save_row.new.store)
    (omega (arith, c.loop-row.invariant.failures)) c.in_err-save_row.ensures.cause)

pub returns-in_err-save_row-clause-calm : goal.returns-in_err-save_row-clause-calm
returns-in_err-save_row-clause-calm g c =
    let p = err_from_is_err_and c.from_residual.result c.from_residual.ensures.1 in
    rw (p.1, p.2)
    (unfailed_then (Unit {0}) (Unit {0}) _ _ c.in_err-save_row.field-0.0
    (λ same. same ∙ c.loop-row.invariant.failures) c.in_err-save_row.ensures.calm)

pub returns-in_err-save_row-clause-doubt : goal.returns-in_err-save_row-clause-doubt
returns-in_err-save_row-clause-doubt g c =
    let p = err_from_is_err_and c.from_residual.result c.from_residual.ensures.1 in
    let same = c.loop-row.invariant.doubts in
    rw (p.1, p.2)
    (doubt_then (Unit {0}) (Unit {0}) _ _ c.in_err-save_row.field-0.0 (λ less. omega (arith, same, less))
    c.in_err-save_row.ensures.doubt)

pub returns-in_err-save_row-clause-sure : goal.returns-in_err-save_row-clause-sure
returns-in_err-save_row-clause-sure g c =
    let p = err_from_is_err_and c.from_residual.result c.from_residual.ensures.1 in
    rw (p.1, p.2)
    (sure_then (Unit {0}) (Unit {0}) _ _ c.in_err-save_row.field-0.0
    (λ same. same ∙ c.loop-row.invariant.doubts) c.in_err-save_row.ensures.sure)

pub loop-row-init : goal.loop-row-init
loop-row-init g c = record {
  honest = λ honest. honest;
  rows = λ honest live. (live, λ k. refl);
  saves = omega arith;
  failures = refl;
  doubts = refl;
}

pub loop-row-preserved : goal.loop-row-preserved
loop-row-preserved g c =
    let e = c.in_ok-save_row.ensures in
    let i = c.loop-row.row-index in
    let inv = c.loop-row.invariant in
    record {
      honest = λ honest. inv.honest (e.honest honest);
      rows = λ honest live.
          let before = inv.rows (e.honest honest) live in
          let after = e.saved honest in (
            after.0,
            one_more (g.S.Stable.rows c.args.store.now) c.args.rows.now i c.row-item.result
                c.loop-row-test.true c.row-item.is (g.S.Stable.rows c.loop-row.store)
                (g.S.Stable.rows c.save_row.new.store) before.1 after.1,
          );
      saves = omega (arith, inv.saves, e.saves);
      failures = e.calm ∙ inv.failures;
      doubts = e.sure ∙ inv.doubts;
    }

pub returns-clause-saved : goal.returns-clause-saved
returns-clause-saved g c = λ honest live.
    let after = c.loop-row.invariant.rows honest live in (
      after.0,
      λ k. after.1 k ∙ ap (λ (xs : List Saved). over (g.S.Stable.rows c.args.store.now) xs k)
          (take_all c.loop-row.row-index c.args.rows.now c.loop-row-test.false),
    )

pub returns-clause-certain : goal.returns-clause-certain
returns-clause-certain g c = λ honest live. (c.loop-row.invariant.rows honest live).0

pub returns-clause-partly : goal.returns-clause-partly
returns-clause-partly g c = λ honest live still.
    record { count = c.loop-row.row-index; rows = (c.loop-row.invariant.rows honest live).1 }

pub returns-clause-crash : goal.returns-clause-crash
returns-clause-crash g c = λ honest live r may.
    let after = c.loop-row.invariant.rows honest live in
    let at = g.met.S.Stable.rests c.loop-row.store honest after.0 r may in
    record { count = c.loop-row.row-index; rows = λ k. at k ∙ after.1 k }

pub returns-clause-honest : goal.returns-clause-honest
returns-clause-honest g c = λ honest. c.loop-row.invariant.honest honest

pub returns-clause-saves : goal.returns-clause-saves
returns-clause-saves g c = omega (
  arith,
  c.loop-row.invariant.saves,
  c.loop-row-test.false,
  c.loop-row.auto.row-index-end,
)

pub returns-clause-failures : goal.returns-clause-failures
returns-clause-failures g c = omega (arith, c.loop-row.invariant.failures)

pub returns-clause-calm : goal.returns-clause-calm
returns-clause-calm g c = c.loop-row.invariant.failures

pub returns-clause-sure : goal.returns-clause-sure
returns-clause-sure g c = c.loop-row.invariant.doubts
