use Rattle.std.proofs.Common.{rules, ◌≡◌, false, inr, IsTrue, refl, sym, subst, ◌∙◌}
use Rattle.sqlite.specs.Held.{state}
use Rattle.smi_stable.specs.SqlTable.{no_schema}
use Rattle.smi_stable.proofs.SqlMakes.{creates}
use Rattle.smi_stable.specs.SqlFault.{HasReason}
use Rattle.smi_stable.proofs.SqlCauses.{made_or}
use Rattle.smi_stable.proofs.SqlKeeps.{fails}
use Rattle.smi_stable.proofs.SqlGiven.{was-made, not-made}
use Rattle.smi_stable.proofs.adopting.with_table.Goals as goal

pub returns-in-Ok-clause-adopted : goal.returns-in-Ok-clause-adopted
returns-in-Ok-clause-adopted g c clean =
    let old = state g.S.Store c.args.conn in
    let new = state g.S.Store c.make_table.new.conn in
    let auto : c.args.conn.in_transaction ≡ false = search rules in
    let has : c.args.conn.schema ≡ no_schema = search rules in
    let m = creates old new c.in-Ok.field-0 has (c.in-Ok.ensures.runs clean) in
    let shown = m.0.shown in
    (shown.mode ∙ auto, m.1, inr (has, m.2), λ live. shown.committed_is ∙ rw auto refl)

pub returns-in-Ok-clause-outside : goal.returns-in-Ok-clause-outside
returns-in-Ok-clause-outside g c =
    let old = state g.S.Store c.args.conn in
    let new = state g.S.Store c.make_table.new.conn in
    let auto : c.args.conn.in_transaction ≡ false = search rules in
    let has : c.args.conn.schema ≡ no_schema = search rules in (
      auto,
      λ clean. was-made old new c.in-Ok.field-0 has clean (c.in-Ok.ensures.runs clean)
          c.make_table.ensures.survives,
    )

pub returns-in-Err-clause-given_back : goal.returns-in-Err-clause-given_back
returns-in-Err-clause-given_back g c clean =
    let old = state g.S.Store c.args.conn in
    let new = state g.S.Store c.make_table.new.conn in
    let auto : c.args.conn.in_transaction ≡ false = search rules in
    let settled : IsTrue old.is_open → old.now ≡ old.committed = c.is_autocommit.ensures.settled (search rules) in
    let has : c.args.conn.schema ≡ no_schema = search rules in
    not-made old new auto settled has clean (fails old new _ _ c.in-Err.error (c.in-Err.ensures.runs clean))
    c.make_table.ensures.survives

pub returns-in-Ok-clause-live : goal.returns-in-Ok-clause-live
returns-in-Ok-clause-live g c clean live =
    let old = state g.S.Store c.args.conn in
    let new = state g.S.Store c.make_table.new.conn in
    let has : c.args.conn.schema ≡ no_schema = search rules in (
      (creates old new c.in-Ok.field-0 has (c.in-Ok.ensures.runs clean)).0.shown.is_open,
      c.make_table.ensures.survives.counts,
    )

pub returns-in-Err-clause-reason : goal.returns-in-Err-clause-reason
returns-in-Err-clause-reason g c clean live can =
    let old = state g.S.Store c.args.conn in
    let new = state g.S.Store c.make_table.new.conn in
    let has : c.args.conn.schema ≡ no_schema = search rules in
    subst (HasReason old new) (sym c.fault_of.ensures.value)
    (made_or old new c.in-Err.error has live (c.in-Err.ensures.runs clean))
