use Rattle.std.proofs.Common.{◌≡◌, ◌+◌, ◌∷◌, Result, Ok, Err, drop, ap, sym, ◌∙◌, subst}
use Rattle.std.proofs.lemmas.List.{drop_all, drop_more}
use Rattle.std.proofs.lemmas.Result.{err_from_is_err_and}
use Rattle.smi_rows.specs.Store.{Saved}
use Rattle.smi_protocol.specs.Grants.{Grants}
use Rattle.smi_protocol.specs.declared.fault.OpenFault.{OpenFault}
use Rattle.smi_station_grants.specs.GrantTable.{grants_of}
use Rattle.smi_station_grants.specs.Restoring.{Comes, and_then, restored, taken}
use Rattle.smi_station_grants.proofs.Results.{passed_on}
use Rattle.smi_station_grants.proofs.load.restore_all.Goals as goal

pub returns-in_err-restore-clause-comes : goal.returns-in_err-restore-clause-comes
returns-in_err-restore-clause-comes c =
    let k = c.args.kept.now in
    let g = grants_of c.loop-row.kept in
    let inv = c.loop-row.invariant in
    let rows = c.args.rows.now in
    let i = c.loop-row.row-index in
    let rest = drop (i + 1) rows in
    let fault = c.in_err-restore.field-0.0 in
    let p = err_from_is_err_and c.from_residual.result c.from_residual.ensures.1 in
    let here : Comes {X = Grants} (Err fault) (taken k.tree k.number g c.row-item.result) = rw (
      ← inv.tree,
      ← inv.number,
    ) c.in_err-restore.ensures.comes in
    let all : and_then (λ j. restored k.tree k.number j rest) (taken k.tree k.number g c.row-item.result)
    ≡ restored k.tree k.number (grants_of k) rows =
    ap (restored k.tree k.number g)
    (sym (drop_more rows i c.row-item.result c.loop-row-test.true
    ∙ ap (λ (r : Saved). r ∷ rest) (sym c.row-item.is))) ∙ inv.all in
    rw (p.1, p.2) (subst (λ (r : Result Grants OpenFault). Comes {X = Grants} (Err fault) r) all
    (passed_on (λ j. restored k.tree k.number j rest) fault (taken k.tree k.number g c.row-item.result) here))

pub returns-in_err-restore-clause-tree : goal.returns-in_err-restore-clause-tree
returns-in_err-restore-clause-tree c = c.in_err-restore.ensures.tree ∙ c.loop-row.invariant.tree

pub returns-in_err-restore-clause-number : goal.returns-in_err-restore-clause-number
returns-in_err-restore-clause-number c = c.in_err-restore.ensures.number ∙ c.loop-row.invariant.number

pub loop-row-preserved : goal.loop-row-preserved
loop-row-preserved c =
    let k = c.args.kept.now in
    let g = grants_of c.loop-row.kept in
    let inv = c.loop-row.invariant in
    let rows = c.args.rows.now in
    let i = c.loop-row.row-index in
    let rest = drop (i + 1) rows in
    let here : taken k.tree k.number g c.row-item.result
    ≡ Ok (grants_of c.restore.new.kept) = rw (← inv.tree, ← inv.number) c.in_ok-restore.ensures.comes in
    record {
      all =
          ap (and_then (λ j. restored k.tree k.number j rest)) (sym here)
          ∙ ap (restored k.tree k.number g)
          (sym (drop_more rows i c.row-item.result c.loop-row-test.true
          ∙ ap (λ (r : Saved). r ∷ rest) (sym c.row-item.is)))
          ∙ inv.all;
      tree = c.in_ok-restore.ensures.tree ∙ inv.tree;
      number = c.in_ok-restore.ensures.number ∙ inv.number;
    }

pub returns-clause-comes : goal.returns-clause-comes
returns-clause-comes c =
    let k = c.args.kept.now in
    sym c.loop-row.invariant.all ∙ ap (restored k.tree k.number (grants_of c.loop-row.kept))
    (drop_all c.loop-row.row-index c.args.rows.now c.loop-row-test.false)
