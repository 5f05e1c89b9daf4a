-- What the statement of a load shows.
use Rattle.std.proofs.Common.{◌≡◌, ℕ, List, [], ◌∷◌, map, codes, false, None, Some, Option, IsTrue, Ok, flat_map}
use Rattle.std.proofs.Common.{refl, sym, ap, subst, ◌∙◌}
use Rattle.std.specs.List.Sorted.{IsPermutation}
use Rattle.sqlite.specs.declared.types.Value.TheVariants.{Null}
use Rattle.sqlite.specs.Order.{Row, column}
use Rattle.sqlite.specs.Query.{IsAnswer, output, Output}
use Rattle.sqlite.specs.Program.{overlay}
use Rattle.sqlite.specs.Command.TheVariants.{Select}
use Rattle.sqlite_tied.specs.Compute.{everything}
use Rattle.sqlite.specs.Listing.{understood, reads_listing}
use Rattle.std.proofs.Common.{◌⊎◌, inl, inr}
use Rattle.sqlite.specs.declared.error.Error.{Error}
use Rattle.sqlite_schema.specs.declared.command.Returning.{Returning}
use Rattle.sqlite.specs.Tree.{Trees}
use Rattle.sqlite_resolve.specs.declared.compiled.Compiled.{Compiled}
use Rattle.sqlite.specs.State.{State, Shown, ShowsRows, FailsToShow, FailsToQuery, CommitsShowing, IsUnchanged}
use Rattle.sqlite.specs.State.{IsRolledBack}
use Rattle.smi_stable.proofs.SqlKeeps.{not_run}
use Rattle.sqlite.proofs.Callers.{IsPlain, command_of, reads_as}
use Rattle.smi_stable.specs.SqlTable.{select_text, stable_schema}
use Rattle.smi_stable.specs.SqlListing.{query, Lists}

select_is : command_of (understood stable_schema select_text)
    ≡ Select (record { lets = []; body = query })
    (codes "station" ∷ codes "domain" ∷ codes "operator" ∷ codes "bytes" ∷ [])
unfolding understood everything
select_is = refl

select_plain : IsPlain (understood stable_schema select_text)
unfolding understood everything
select_plain = (refl, refl)

select_listed : reads_listing stable_schema select_text ≡ false
unfolding understood everything
select_listed = refl

flat_one : {A B : Type 0} (f : A → B) (xs : List A) → flat_map (λ x. f x ∷ []) xs ≡ map f xs
flat_one f [] = refl
flat_one f (x ∷ xs) = ap (λ ys. f x ∷ ys) (flat_one f xs)

pub loads : (old new : State) (rows : List Row) → old.now.schema ≡ stable_schema → Shown select_text [] old new rows
    → Lists (old.now.trees 0) rows
loads old new rows has h =
    let got = reads_as select_text [] old new stable_schema has _ select_is select_plain select_listed rows h in
    let a : IsAnswer query (overlay old.now.trees []) [] rows = got.answer Null in
    let staged : a.staged ≡ map (λ r. [] ∷ r ∷ []) (old.now.trees 0) = a.grouped
    ∙ flat_one (λ (r : Row). [] ∷ r ∷ []) (old.now.trees 0) in
    let kept : a.kept ≡ map (output query) (map (λ r. [] ∷ r ∷ []) (old.now.trees 0)) = a.distinct
    ∙ ap (map (output query)) staged in
    record {
      ordered = a.ordered;
      same = subst (λ k. IsPermutation k a.ordered) kept a.same;
      sorted = a.sorted;
      shown = a.shown;
    }

-- each row is shown as its key and its bytes
pub row_is : (rows : List Row) → map (λ (o : Output). o.1) (map (output query) (map (λ r. [] ∷ r ∷ []) rows))
    ≡ map (λ r. column r 1 ∷ column r 2 ∷ column r 3 ∷ column r 4 ∷ []) rows
row_is [] = refl
row_is (r ∷ rows) = ap (λ rs. (column r 1 ∷ column r 2 ∷ column r 3 ∷ column r 4 ∷ []) ∷ rs) (row_is rows)

-- ---- what a load leaves

plain_select : (old : State) (c : Compiled) → old.now.schema ≡ stable_schema
    → understood old.now.schema select_text ≡ Ok c → c.returning ≡ None
plain_select old c has is =
    let known = sym is ∙ ap (λ s. understood s select_text) has in
    let bare = subst IsPlain (sym known) select_plain in
    bare.0

pub load-unchanged : (old new : State) (rows : List Row) → old.now.schema ≡ stable_schema
    → Shown select_text [] old new rows → IsUnchanged old new
unfolding Shown
load-unchanged old new rows has h = let it = rw (plain_select old h.0 has h.1.is) at h.2 in it.3

fails_to_show : (old new : State) (sql : List ℕ) (c : Compiled) (params : Row) (e : Error) (r : Option Returning)
    → FailsToShow old new sql c params e r → IsUnchanged old new ⊎ IsRolledBack old new
fails_to_show old new sql c params e None h = inl h.3
fails_to_show old new sql c params e (Some what) (inl h) = inl h.1
fails_to_show old new sql c params e (Some what) (inr h) = inr h.3

pub load-fails : (old new : State) (sql : List ℕ) (params : Row) (e : Error) → FailsToQuery sql params old new e
    → IsUnchanged old new ⊎ IsRolledBack old new
unfolding FailsToQuery
load-fails old new sql params e (inl h) = not_run old new sql params e h
load-fails old new sql params e (inr h) = fails_to_show old new sql h.0 _ e h.0.returning h.2

shows_open : (old new : State) (sql : List ℕ) (c : Compiled) (params : Row) (rows : List Row) (r : Option Returning)
    → ShowsRows old new sql c params rows r → IsTrue old.is_open
shows_open old new sql c params rows None h = h.3.0.was_open
shows_open old new sql c params rows (Some what) h = h.1.shown.was_open

pub load-open : (old new : State) (sql : List ℕ) (params : Row) (rows : List Row) → Shown sql params old new rows
    → IsTrue old.is_open
unfolding Shown
load-open old new sql params rows h = shows_open old new sql h.0 _ rows h.0.returning h.2

pub load-commits : (old : State) (db : Trees) → old.now.schema ≡ stable_schema → CommitsShowing select_text [] old db
    → ⊥
unfolding CommitsShowing
load-commits old db has h = let e = rw (plain_select old h.0 has h.1.is) at h.2 in cc
