use Rattle.std.proofs.Common.{List, sym, subst}
use Rattle.smi_rows.specs.Store.{IsListing, Saved}
use Rattle.smi_station_grants.proofs.start.loaded_kept.Goals as goal

pub returns-clause-opens : goal.returns-clause-opens
returns-clause-opens g c = λ honest.
    c.kept_of_rows.ensures.opens (g.S.Stable.rows c.args.store.now)
    (subst (λ (xs : List Saved). IsListing (g.S.Stable.rows c.args.store.now) xs) (sym c.deref.ensures.value)
    (c.in_ok-rows.ensures.listing honest).1)
