use Rattle.std.proofs.Common.{◌≡◌, Result, Err, ap, sym, ◌∙◌, subst}
use Rattle.std.proofs.lemmas.Result.{err_from_is_err_and}
use Rattle.smi_protocol.specs.Grants.{Grants, no_grants}
use Rattle.smi_protocol.specs.declared.fault.OpenFault.{OpenFault}
use Rattle.smi_station_grants.specs.GrantTable.{grants_of}
use Rattle.smi_station_grants.specs.Restoring.{Comes, and_then, leaving, raised, restored}
use Rattle.smi_station_grants.proofs.Results.{comes_so, passed_on}
use Rattle.smi_station_grants.proofs.load.start.Goals as goal

pub returns-in_err-restore_all-clause-comes : goal.returns-in_err-restore_all-clause-comes
returns-in_err-restore_all-clause-comes c =
    let k = c.args.kept.now in
    let p = err_from_is_err_and c.from_residual.result c.from_residual.ensures.1 in
    let first : restored k.tree k.number (grants_of k) c.args.rows.now
    ≡ restored k.tree k.number no_grants c.args.rows.now =
    ap (λ (g : Grants). restored k.tree k.number g c.args.rows.now) c.requires in
    rw (p.1, p.2)
    (passed_on raised c.in_err-restore_all.field-0.0 (restored k.tree k.number no_grants c.args.rows.now)
    (subst (λ (r : Result Grants OpenFault). Comes {X = Grants} (Err c.in_err-restore_all.field-0.0) r) first
    c.in_err-restore_all.ensures.comes))

pub returns-clause-comes : goal.returns-clause-comes
returns-clause-comes c =
    let k = c.args.kept.now in
    comes_so (leaving (grants_of c.raise.new.kept) c.raise.result)
    (and_then raised (restored k.tree k.number no_grants c.args.rows.now))
    (ap (λ (g : Grants). and_then raised (restored k.tree k.number g c.args.rows.now)) (sym c.requires)
    ∙ ap (and_then raised) c.in_ok-restore_all.ensures.comes ∙ c.raise.ensures.comes)
