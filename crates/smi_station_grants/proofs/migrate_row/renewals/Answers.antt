use Rattle.std.proofs.Common.{◌≡◌, ◌+◌, ◌++◌, ◌∷◌, [], List, Option, Some, None, Result, Err, drop, refl, ap, sym}
use Rattle.std.proofs.Common.{◌∙◌, subst, append_assoc, append-nil}
use Rattle.std.specs.List.{cons_option}
use Rattle.std.proofs.lemmas.List.{drop_all, drop_more}
use Rattle.std.proofs.lemmas.Result.{err_from_is_err_and}
use Rattle.smi_rows.specs.Store.{Saved}
use Rattle.smi_protocol.specs.declared.fault.OpenFault.{OpenFault}
use Rattle.smi_station_grants.specs.Migrating as spec
use Rattle.smi_station_grants.specs.Restoring.{Comes, and_then, said_to}
use Rattle.smi_station_grants.proofs.Results.{passed_on, whatever_told}
use Rattle.smi_station_grants.proofs.migrate_row.renewals.Goals as goal

cons_is : (o : Option Saved) (xs : List Saved) → cons_option o [] ++ xs ≡ cons_option o xs
cons_is None xs = refl
cons_is (Some x) xs = refl

pub returns-in_err-renew-clause-told : goal.returns-in_err-renew-clause-told
returns-in_err-renew-clause-told c =
    let h = c.args.tree.now in
    let number = c.args.number in
    let rows = c.args.rows.now in
    let i = c.loop-row.row-index in
    let row = c.row-item.result in
    let rest = spec.all_told h number (drop (i + 1) rows) in
    let fault = c.in_err-renew.field-0.0 in
    let p = err_from_is_err_and c.from_residual.result c.from_residual.ensures.1 in
    let all : and_then (λ u. rest) (spec.only_told (said_to h number row)) ≡ spec.all_told h number rows =
    whatever_told rest (said_to h number row)
    ∙ ap (spec.all_told h number)
    (sym (drop_more rows i row c.loop-row-test.true ∙ ap (λ (r : Saved). r ∷ drop (i + 1) rows) (sym c.row-item.is)))
    ∙ c.loop-row.invariant.told in
    rw (p.1, p.2) (subst (λ (r : Result (Unit {0}) OpenFault). Comes {X = Unit {0}} (Err fault) r) all
    (passed_on (λ u. rest) fault (spec.only_told (said_to h number row)) c.in_err-renew.ensures.told))

pub loop-row-preserved : goal.loop-row-preserved
loop-row-preserved c =
    let h = c.args.tree.now in
    let number = c.args.number in
    let rows = c.args.rows.now in
    let i = c.loop-row.row-index in
    let row = c.row-item.result in
    let later = drop (i + 1) rows in
    let rest = spec.all_told h number later in
    let next : row ∷ later ≡ drop i rows = sym
    (drop_more rows i row c.loop-row-test.true ∙ ap (λ (r : Saved). r ∷ later) (sym c.row-item.is)) in
    record {
      told =
          sym (ap (and_then (λ u. rest)) c.in_ok-renew.ensures.told) ∙ whatever_told rest (said_to h number row)
          ∙ ap (spec.all_told h number) next ∙ c.loop-row.invariant.told;
      all =
          ap (λ (xs : List Saved). xs ++ spec.renewals h number later) c.in_ok-renew.ensures.list
          ∙ append_assoc c.loop-row.list.items (cons_option (spec.renewal h number row) [])
          (spec.renewals h number later)
          ∙ ap (λ (xs : List Saved). c.loop-row.list.items ++ xs)
          (cons_is (spec.renewal h number row) (spec.renewals h number later) ∙ ap (spec.renewals h number) next)
          ∙ c.loop-row.invariant.all;
    }

pub returns-clause-told : goal.returns-clause-told
returns-clause-told c =
    sym c.loop-row.invariant.told ∙ ap (spec.all_told c.args.tree.now c.args.number)
    (drop_all c.loop-row.row-index c.args.rows.now c.loop-row-test.false)

pub returns-clause-list : goal.returns-clause-list
returns-clause-list c =
    sym (append-nil c.loop-row.list.items)
    ∙ ap (λ (xs : List Saved). c.loop-row.list.items ++ spec.renewals c.args.tree.now c.args.number xs)
    (sym (drop_all c.loop-row.row-index c.args.rows.now c.loop-row-test.false))
    ∙ c.loop-row.invariant.all
