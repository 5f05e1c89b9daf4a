use Rattle.std.proofs.Common.{◌≡◌, Option, Some, Ok, ap, sym, ◌∙◌, subst}
use Rattle.smi_tree.specs.Hierarchy.{Hierarchy}
use Rattle.smi_rows.specs.declared.Row.{Row}
use Rattle.smi_rows.specs.Store.{Saved}
use Rattle.smi_protocol.specs.Grants.{Grants}
use Rattle.smi_station_grants.specs.GrantTable.{grants_of}
use Rattle.smi_station_grants.specs.Restoring.{IsOwn, and_then, as_said, as_told, said_to}
use Rattle.smi_station_grants.proofs.Taking.{own_row_is}
use Rattle.smi_station_grants.proofs.load.restore.Goals as goal

-- what the row says
told : (c : goal.After-said-in-Some-1) → said_to c.args.kept.now.tree c.args.kept.now.number c.args.row.now
    ≡ Ok (Some c.in-Some.said)
told c =
    ap (λ (h : Hierarchy). said_to h c.args.kept.now.number c.args.row.now) (sym c.tree.ensures.value)
    ∙ ap (λ n. said_to c.tree.result.now n c.args.row.now) (sym c.number.ensures.value)
    ∙ c.in_ok-said_to.ensures.said
    ∙ ap (λ (o : Option Row). Ok o) c.in-Some.is

pub put-requires-clause-own : goal.put-requires-clause-own
put-requires-clause-own c =
    subst (λ (r : Saved). IsOwn c.args.kept.now.tree c.args.kept.now.number r.key c.in-Some.said) (sym c.row.view_is)
    (own_row_is c.args.kept.now.tree c.args.kept.now.number c.args.row.now c.in-Some.said (told c))

pub returns-in-Some-clause-comes : goal.returns-in-Some-clause-comes
returns-in-Some-clause-comes c =
    let k = c.args.kept.now in
    let all =
    ap (λ (h : Hierarchy). said_to h k.number c.args.row.now) (sym c.tree.ensures.value)
    ∙ ap (λ n. said_to c.tree.result.now n c.args.row.now) (sym c.number.ensures.value)
    ∙ c.in_ok-said_to.ensures.said
    ∙ ap (λ (o : Option Row). Ok o) c.in-Some.is in
    ap (and_then (λ said. Ok (as_told k.tree (grants_of k) c.args.row.now.key said))) all
    ∙ ap (λ (r : Saved). Ok (as_said k.tree (grants_of k) r.key c.in-Some.said)) (sym c.row.view_is)
    ∙ ap (λ (g : Grants). Ok g) (sym c.put.ensures.grants)
