use Rattle.std.proofs.Common.{◌≡◌, ℕ, Result, Ok, Err, ap, ◌∙◌}
use Rattle.std.specs.Prelude.{IfOk, OnOk}
use mathlib.Core.Path.{fun_ext}
use Rattle.smi_rows.specs.Store.{IsSame, Rows}
use Rattle.smi_protocol.specs.Loading.{AllRead}
use Rattle.smi_protocol.specs.declared.fault.OpenFault.{OpenFault}
use Rattle.smi_station_grants.specs.Migrating.{Counts, in_newest}
use Rattle.smi_station_grants.proofs.Twice.{newest_twice, nothing_left}
use Rattle.smi_station_grants.proofs.law.migrated_rows_stay.Goals as goal

pub returns-clause-none : goal.returns-clause-none
returns-clause-none g c = λ honest.
    let between = c.migrate-2.ensures.honest honest in
    let first = c.in_ok-migrate.ensures in
    go c.migrate-2.result (first.migrates between).1 (first.newest between).1 (c.migrate-2.ensures.count honest)
  where
    rows : Rows
    rows = g.S.Stable.rows c.args.store.now

    mid : Rows
    mid = g.S.Stable.rows c.migrate.new.store

    go : (r : Result ℕ OpenFault) → AllRead c.args.tree.now c.args.number rows
        → IsSame mid (in_newest c.args.tree.now c.args.number rows) → IfOk r (λ n. Counts c.args.number mid n)
        → IfOk r (λ n. n ≡ 0)
    go (Ok n) all same counts = counts.count ∙ nothing_left c.args.tree.now c.args.number rows all mid counts.list
        same counts.listing
    go (Err fault) all same counts = tt

pub returns-clause-rows : goal.returns-clause-rows
returns-clause-rows g c = λ honest.
    let between = c.migrate-2.ensures.honest honest in
    go _ c.migrate-2.result (c.in_ok-migrate.ensures.newest between).1 (c.migrate-2.ensures.newest honest)
  where
    rows : Rows
    rows = g.S.Stable.rows c.args.store.now

    mid : Rows
    mid = g.S.Stable.rows c.migrate.new.store

    new : Rows
    new = g.S.Stable.rows c.migrate-2.new.store

    go : (A : Type 0) (r : Result ℕ OpenFault) → IsSame mid (in_newest c.args.tree.now c.args.number rows)
        → OnOk r (A × IsSame new (in_newest c.args.tree.now c.args.number mid))
        → OnOk r (IsSame new (in_newest c.args.tree.now c.args.number rows))
    go A (Ok n) same after = λ k.
        after.1 k ∙ ap (λ (t : Rows). in_newest c.args.tree.now c.args.number t k) (fun_ext same)
        ∙ newest_twice c.args.tree.now c.args.number rows k
    go A (Err fault) same after = tt
