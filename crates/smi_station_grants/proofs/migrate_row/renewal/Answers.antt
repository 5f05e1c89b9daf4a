use Rattle.std.proofs.Common.{◌≡◌, Option, Some, Result, Ok, Err, ap, sym, ◌∙◌}
use Rattle.std.specs.Prelude.{IfOk, if◌then◌else◌, None}
use Rattle.smi_rows.specs.declared.Row.{Row}
use Rattle.smi_rows.specs.Store.{Saved, saved}
use Rattle.smi_rows.proofs.Laws.{read_is_row}
use Rattle.smi_protocol.specs.declared.fault.OpenFault.{OpenFault}
use Rattle.smi_station_grants.specs.Migrating as spec
use Rattle.smi_station_grants.specs.Restoring.{said_to}
use Rattle.smi_station_grants.proofs.Migrated.{told_renewal}
use Rattle.smi_station_grants.proofs.Rewritten.{few_links}
use Rattle.smi_station_grants.proofs.Taking.{told_own}
use Rattle.smi_station_grants.proofs.migrate_row.renewal.Goals as goal

pub anew-requires : goal.anew-requires
anew-requires c =
    let told : said_to c.args.tree.now c.args.number c.args.row.now
    ≡ Ok (Some c.in-Some.said) = c.in_ok-said_to.ensures.said ∙ ap (λ (o : Option Row). Ok o) c.in-Some.is in
    let own = told_own c.args.tree.now c.args.number c.args.row.now c.in-Some.said told in
    few_links c.args.tree.now c.args.row.now.key c.args.row.now.bytes c.in-Some.said
    (read_is_row c.args.tree.now c.args.row.now.key c.args.row.now.bytes c.in-Some.said own.1)

pub returns-in-Some-clause-anew : goal.returns-in-Some-clause-anew
returns-in-Some-clause-anew c = go c.anew.result c.anew.ensures.anew
  where
    told : said_to c.args.tree.now c.args.number c.args.row.now ≡ Ok (Some c.in-Some.said)
    told = c.in_ok-said_to.ensures.said ∙ ap (λ (o : Option Row). Ok o) c.in-Some.is

    go : (r : Result (Option Saved) OpenFault)
        → IfOk r (λ anew. anew ≡ (if spec.is_older c.args.row.now.key c.args.row.now.bytes
        then Some (saved c.args.row.now.key (spec.newest_bytes c.in-Some.said)) else None))
        → IfOk r (λ anew. anew ≡ spec.renewal c.args.tree.now c.args.number c.args.row.now)
    go (Ok x) is = is ∙ sym (told_renewal c.args.tree.now c.args.number c.args.row.now (Some c.in-Some.said) told)
    go (Err fault) is = tt
