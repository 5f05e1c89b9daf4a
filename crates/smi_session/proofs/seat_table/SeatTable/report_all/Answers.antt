use Rattle.std.proofs.Common.{◌≡◌, ◌∷◌, ◌+◌, ℕ, ◌<◌, List, drop, get_or, length, drop-cons, ap, subst, sym, ◌∙◌}
use Rattle.std.proofs.Common.{arith, suc}
use Rattle.smi_session.specs.SeatTable.{ReportsAll}
use Rattle.smi_session.specs.declared.will.DeviceWill.{DeviceWill}
use Rattle.smi_session.proofs.seat_table.SeatTable.report_all.Goals as goal

later : (i : ℕ) → suc i ≡ i + 1
later i = omega arith

drop_next : (xs : List DeviceWill) (i : ℕ) (d : DeviceWill) → i < length xs
    → drop i xs ≡ get_or xs i d ∷ drop (i + 1) xs
drop_next xs i d within = drop-cons xs i d within ∙ ap (λ n. get_or xs i d ∷ drop n xs) (later i)

pub loop-will-preserved : goal.loop-will-preserved
loop-will-preserved c =
    λ after more.
    c.loop-will.invariant after
    (subst (λ (rest : List DeviceWill). ReportsAll c.args.now c.args.session rest c.loop-will.self after)
    (sym (drop_next c.args.wills.now c.loop-will.will-index _ c.loop-will-test.true))
    (c.report.new.self, c.in_ok-report.ensures.ok, more))
