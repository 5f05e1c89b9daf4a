use Rattle.std.proofs.Common.{List, Result, Ok, Err, true, sym, subst, arith}
use Rattle.std.proofs.lemmas.Bool.Decides.{nat_tests}
use Rattle.smi_rows.specs.Store.{IsListing, Rows, Saved}
use Rattle.smi_protocol.specs.Loading.{IsStation}
use Rattle.smi_protocol.specs.declared.fault.OpenFault.{OpenFault}
use Rattle.smi_station_grants.specs.Migrating.{Migrates, all_told, only_told}
use Rattle.smi_station_grants.specs.Restoring.{Comes}
use Rattle.smi_station_grants.proofs.ToldRows.{told_faults, told_read}
use Rattle.smi_station_grants.proofs.migration.loaded_renewals.Goals as goal

pub returns-clause-migrates : goal.returns-clause-migrates
returns-clause-migrates g c = λ honest.
    go c.renewals.result c.renewals.ensures.told
    (subst (λ (xs : List Saved). IsListing (g.S.Stable.rows c.args.store.now) xs) (sym c.deref.ensures.value)
    (c.in_ok-rows.ensures.listing honest).1)
  where
    rows : Rows
    rows = g.S.Stable.rows c.args.store.now

    there : IsStation c.args.tree.now c.args.number true
    there = let least = c.requires.least in let most = c.requires.most in grind (arith, nat_tests)

    go : {X : Type 0} → (r : Result X OpenFault)
        → Comes (only_told r) (all_told c.args.tree.now c.args.number c.deref.result.now)
        → IsListing rows c.deref.result.now → Migrates c.args.tree.now c.args.number rows r
    go (Ok x) told listing = (there, told_read c.args.tree.now c.args.number c.deref.result.now rows listing told)
    go {X = X} (Err fault) told listing = told_faults c.args.tree.now c.args.number c.deref.result.now rows listing X
        there fault told
