use Rattle.std.proofs.Common.{◌∙◌, Ok, ap, subst, sym}
use Rattle.smi_tree.specs.Lawful.{IsBetween}
use Rattle.smi_tree.specs.Lookups.{station_count}
use Rattle.smi_station_grants.specs.Stored.{Restarts}
use Rattle.smi_station.proofs.Stored.{start_restarts, start_stored}
use Rattle.smi_station.specs.Core.{Core, IsStoredIn, begun, number_of, station_of, tree_of}
use Rattle.smi_station.proofs.station.Core.restart.Goals as goal

pub returns-in-Ok-clause-anew : goal.returns-in-Ok-clause-anew
returns-in-Ok-clause-anew g c = λ honest opened stored.
    let now = c.args.self.now in
    subst (λ (x : Core). Restarts (tree_of now) (number_of now) (station_of now).grants (begun (Ok x)))
    (sym c.drop.view_is)
    (start_restarts c.tree.result.now c.number.result now (g.S.Stable.rows c.args.store.now) (Ok c.in-Ok.core)
    (c.tree.ensures.value ∙ ap (λ (x : Core). tree_of x) c.self.view_is)
    (c.number.ensures.value ∙ ap (λ (x : Core). number_of x) c.self.view_is)
    (subst (λ (x : Core). IsBetween 1 (station_count (tree_of x)) (number_of x)) c.self.view_is
    c.tree.ensures.kept.number)
    stored (c.in-Ok.ensures.opens honest))

pub returns-in-Ok-clause-stored : goal.returns-in-Ok-clause-stored
returns-in-Ok-clause-stored g c = λ honest.
    subst (IsStoredIn (g.S.Stable.rows c.start.new.store)) (sym c.drop.view_is)
    (start_stored c.tree.result.now c.number.result (g.S.Stable.is_open c.start.new.store) (Ok c.in-Ok.core)
    (g.S.Stable.rows c.args.store.now) (g.S.Stable.rows c.start.new.store)
    (c.in-Ok.ensures.opens honest) c.in-Ok.ensures.of (c.in-Ok.ensures.saved honest))

pub returns-in-Ok-clause-saved : goal.returns-in-Ok-clause-saved
returns-in-Ok-clause-saved g c =
    let tree = c.tree.ensures.value ∙ ap (λ (x : Core). tree_of x) c.self.view_is in
    let number = c.number.ensures.value ∙ ap (λ (x : Core). number_of x) c.self.view_is in
    rw (tree, number) at c.in-Ok.ensures.saved

pub returns-in-Ok-clause-crash : goal.returns-in-Ok-clause-crash
returns-in-Ok-clause-crash g c =
    let tree = c.tree.ensures.value ∙ ap (λ (x : Core). tree_of x) c.self.view_is in
    let number = c.number.ensures.value ∙ ap (λ (x : Core). number_of x) c.self.view_is in
    rw (tree, number) at c.in-Ok.ensures.crash
