use Rattle.std.proofs.Common.{◌≡◌, false, IsTrue, sym, ap, subst, ◌∙◌, arith}
use Rattle.sqlite.specs.Effect.{Database}
use Rattle.sqlite.specs.Held.{state}
use Rattle.sqlite.specs.State.{HasCleanDisk}
use Rattle.sqlite_trees.specs.View.{IsClean}
use Rattle.smi_stable.proofs.log_copy.reopened.Goals as goal

pub returns-in-Ok-2-clause-crash : goal.returns-in-Ok-2-clause-crash
returns-in-Ok-2-clause-crash g c clean db may =
    let quiet = c.into_store.ensures.quiet in
    let below = quiet.clean in
    let new_clean : HasCleanDisk (state g.S.Store c.in-Ok.conn) = omega (arith, clean) in
    let under = c.in-Ok.ensures.clean in
    let clean_store : IsClean (g.S.Store.view c.with_log_copied-store.result) = omega (arith, new_clean) in
    let sound = sym (c.is_broken.ensures clean_store) ∙ c.if-is_broken.false in
    let live = c.with_log_copied-store.ensures.open clean_store sound in
    let opens = (c.in-Ok.ensures.opens new_clean).0 in
    let found = g.met.S.Store.settled c.in-Ok.conn.store db opens.is_open (quiet.outcomes db may) in
    let is : db ≡ (g.S.Store.view c.args.conn.store).committed =
    found ∙ sym (ap (λ (d : Database). d.trees) opens.clean) ∙ c.in-Ok.ensures.trees new_clean
    ∙ c.with_log_copied-store.ensures.trees clean_store sound in
    subst (g.S.Store.recovers c.args.conn.store) (sym is) (g.met.S.Store.stays c.args.conn.store live)
