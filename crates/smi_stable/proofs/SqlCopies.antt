-- What a copy of the log leaves of a store.
use Rattle.std.proofs.Common.{◌≡◌, inl, inr, false, true≢false, [], IsTrue, refl, sym, ap, subst, ◌∙◌}
use Rattle.std.proofs.lemmas.Bool.{cases_Bool}
use Rattle.sqlite.specs.Effect.{Database}
use Rattle.sqlite.specs.Tree.{Trees}
use Rattle.sqlite.specs.State.{State, HasCleanDisk, Opens}
use Rattle.sqlite.specs.Steps.{IsFresh}
use Rattle.sqlite_trees.specs.View.{View, IsClean, IsRolledBack}
use Rattle.smi_stable.specs.SqlTable.{stable_schema}
use Rattle.smi_stable.specs.SqlRows.{IsKeyed}
use Rattle.smi_rows.specs.Store.{IsSame}
use Rattle.smi_stable.specs.SqlReady.{IsReady, IsReopened, rows_in, rows_of}

is_open : (v : View) → (v.is_open ≡ false → IsTrue v.is_broken) → v.is_broken ≡ false → IsTrue v.is_open
is_open v law sound =
    elim (cases_Bool v.is_open) [ inl it ↦ it | inr shut ↦ absurd (true≢false (sym (law shut) ∙ sound)) ]

-- a database that was rolled back, and is not shut by the copy, is as its last commit left it
pub fresh : (old undone new : View) → (new.is_open ≡ false → IsTrue new.is_broken) → IsRolledBack old undone
    → (IsClean undone → IsTrue undone.is_numbered) → (IsTrue new.is_open → new ≡ undone) → IsClean new
    → new.is_broken ≡ false → IsFresh new × IsTrue old.is_open × (new.trees ≡ old.committed)
fresh old undone new law back numbered same clean sound =
    let live = is_open new law sound in
    let is = same live in
    let was : IsTrue undone.is_open = subst (λ (v : View). IsTrue v.is_open) is live in
    let still : IsClean undone = subst IsClean is clean in
    let kept = back.kept still in
    let trees = back.undone was in (
      subst IsFresh (sym is) (record {
        sound = trees.1;
        numbered = numbered still;
        clean = trees.0 ∙ sym (kept.committed was);
        unmarked = kept.marks was;
      }),
      kept.was_open was,
      ap (λ (v : View). v.trees) is ∙ trees.0,
    )

-- a new connection over it has the same rows
pub reopens : (old new : State) → IsTrue old.is_open → HasCleanDisk old → IsReady old → Opens new
    → new.now.schema ≡ stable_schema → new.now.trees ≡ old.committed.trees → IsReopened old new
reopens old new live clean ready opens schema trees =
    let r = (ready clean).1 live in
    let same : new.now.trees ≡ old.now.trees = trees ∙ ap (λ (d : Database). d.trees) r.settled in
    record {
      mode = opens.autocommit;
      is_open = opens.is_open;
      rest = record {
        schema = schema;
        keyed = subst (λ (db : Trees). IsKeyed (db 0)) (sym same) r.keyed;
        settled = sym opens.clean;
      };
      same = same;
    }

-- what the last commit of a database at rest left has its rows
pub committed-rows : (old : State) → IsTrue old.is_open → HasCleanDisk old → IsReady old → (db : Trees)
    → db ≡ old.committed.trees → IsSame (rows_in db) (rows_of old)
committed-rows old live clean ready db is k =
    ap (λ (t : Trees). rows_in t k) (is ∙ ap (λ (d : Database). d.trees) ((ready clean).1 live).settled)

-- and so has what the last commit of a new connection left
pub reopened-rows : (old new : State) → IsReopened old new → (db : Trees) → db ≡ new.committed.trees
    → IsSame (rows_in db) (rows_of old)
reopened-rows old new r db is k =
    ap (λ (t : Trees). rows_in t k) (is ∙ ap (λ (d : Database). d.trees) r.rest.settled ∙ r.same)
