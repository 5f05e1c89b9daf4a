-- What the one statement of a save does to the rows of the table.
use Rattle.std.proofs.Common.{◌≡◌, ◌⊎◌, inl, inr, ℕ, ℤ, List, [], ◌∷◌, ◌++◌, map, filter, flat_map, Bool}
use Rattle.std.proofs.Common.{true, false, cond}
use Rattle.std.proofs.Common.{not, ◌&&◌, true≢false, Option, Some, None, Ok, Err, Result, refl, sym, ap, subst, ◌∙◌}
use Rattle.std.specs.List.Sorted.{IsPermutation}
use Rattle.std.proofs.lemmas.Bool.{or_cases, or_left}
use Rattle.sqlite.specs.declared.types.Value.{Value}
use Rattle.sqlite.specs.declared.types.Value.TheVariants.{Null, Int, Blob}
use Rattle.sqlite.specs.Order.{Row, column}
use Rattle.sqlite.specs.Ops.{unary}
use Rattle.sqlite.specs.Kind.TheVariants.{Integer}
use Rattle.sqlite_schema.specs.declared.command.Conflict.TheVariants.{Abort}
use Rattle.sqlite.specs.Edit.{edit_of, id_in, next_rowid, with_rowid, is_taken}
use Rattle.sqlite.specs.Cast.{cast, cast_row}
use Rattle.sqlite.specs.Rowids.TheVariants.{Chosen, Given}
use Rattle.sqlite.specs.Query.{IsAnswer, output, Output}
use Rattle.sqlite.specs.Program.{overlay}
use Rattle.sqlite.specs.Term.{Env, holds}
use Rattle.std.specs.List.{list_all}
use Rattle.sqlite_rules.specs.Lists.{Has}
use Rattle.sqlite_rules.specs.Keys.{AreConflicts}
use Rattle.sqlite_rules.specs.Calls.{ids_of}
use Rattle.sqlite_rules.proofs.ListLemmas.{has_filtered, has_kept}
use Rattle.sqlite.specs.Does.{Tally, Does}
use Rattle.sqlite.specs.Rows.{Written, Task, nothing, Puts, Clears, Upserts, Updates, Meets, Judged, Tries, TriesEach}
use Rattle.sqlite.specs.Rows.{Then, Gives, Edited, mended, count_of}
use Rattle.sqlite_schema.specs.declared.schema.Keys.{Keys}
use Rattle.sqlite_rules.specs.declared.error.Refusal.{Refusal}
use Rattle.sqlite.specs.Tree.{Trees, put_row, rowid, without_rowid}
use Rattle.sqlite.specs.Effect.{Database}
use Rattle.sqlite.specs.Listing.{understood}
use Rattle.sqlite.specs.State.{State, mode_of, Writes, Executes, CommitsBy, MayCommit, text_of}
use Rattle.sqlite.specs.declared.run.Mode.{Mode}
use Rattle.sqlite.specs.Schema.{Schema}
use Rattle.sqlite.proofs.Callers.{IsPlain, command_of, statement_of, runs_as, one_step, one_permutation}
use Rattle.smi_stable.specs.SqlTable.{upsert_text, stable_table, stable_schema, key_index}
use Rattle.smi_stable.specs.SqlRows.{has_key, IsKeyed}
use Rattle.smi_stable.proofs.SqlTexts.{change, over_key, upsert_command, upsert_is, upsert_plain}
use Rattle.smi_stable.proofs.SqlUnique.{one_kept, same_id}

pub went : {B E R : Type 0} {b : B} {Stops : E → Type 0} → ((stop : E) × Stops stop × (Ok b ≡ Err stop)) ⊎ R → R
went (inl stopped) = absurd (let e = stopped.2 in cc)
went (inr on) = on

same_value : {B E : Type 0} {a b : B} → ◌≡◌ {A = Result B E} (Ok a) (Ok b) → a ≡ b
same_value e = cc

either : (b : Bool) (x : Value) → cond b x x ≡ x
either true x = refl
either false x = refl

pub cast_int : (n : ℤ) → cast Integer (Int n) ≡ Int n
unfolding unary
cast_int n = either _ (Int n)

pub cast_null : cast Integer Null ≡ Null
unfolding unary
cast_null = either _ Null

abbrev pub row_of : ℤ → ℤ → ℤ → ℤ → List ℕ → Row
row_of id s d o b = Int id ∷ Int s ∷ Int d ∷ Int o ∷ Blob b ∷ []

-- what the save leaves where no row has the key: the row is put in under the next rowid
pub record Adds (rows after : List Row) (s d o : ℤ) (b : List ℕ) : Type 0 where
  pub new_key : (r : Row) → Has rows r → has_key s d o r ≡ true → ⊥
  pub is : after ≡ put_row (row_of (next_rowid rows) s d o b) rows
  pub fresh : is_taken rows (row_of (next_rowid rows) s d o b) ≡ false

-- the row with other bytes, as the table keeps it
abbrev pub changed : Row → List ℕ → Row
changed r b = cast_row stable_table (rowid r ∷ column r 1 ∷ column r 2 ∷ column r 3 ∷ Blob b ∷ [])

-- where a row has it: that row with the new bytes in its place
pub record Changes (rows after : List Row) (s d o : ℤ) (b : List ℕ) : Type 0 where
  pub row : Row
  pub there : Has rows row
  pub key : has_key s d o row ≡ true
  pub is : after ≡ put_row (changed row b) (without_rowid (id_in (rowid row)) rows)
  pub fresh : is_taken (without_rowid (id_in (rowid row)) rows) (changed row b) ≡ false

abbrev pub Saves : List Row → List Row → ℤ → ℤ → ℤ → List ℕ → Type 0
Saves rows after s d o b = Adds rows after s d o b ⊎ Changes rows after s d o b

abbrev source_of : ℤ → ℤ → ℤ → List ℕ → Row
source_of s d o b = Null ∷ Int s ∷ Int d ∷ Int o ∷ Blob b ∷ []

stored : (rows : List Row) (s d o : ℤ) (b : List ℕ)
    → with_rowid Chosen rows (cast_row stable_table (mended Abort stable_table (source_of s d o b)))
    ≡ row_of (next_rowid rows) s d o b
stored rows s d o b = rw (cast_null, cast_int s, cast_int d, cast_int o) refl

same_row : (id s d o : ℤ) (b : List ℕ) → cast_row stable_table (row_of id s d o b) ≡ row_of id s d o b
same_row id s d o b = rw (cast_int id, cast_int s, cast_int d, cast_int o) refl

not_taken : (b : Bool) → (not b && true) ≡ true → b ≡ false
not_taken true e = cc
not_taken false e = refl

matched : (p : Row → Bool) (f : Row → Env) (rows : List Row)
    → flat_map (λ r. cond (p r) (f r ∷ []) []) rows ≡ map f (filter p rows)
matched p f [] = refl
matched p f (r ∷ rows) =
    elim (p r) as (λ b. cond b (f r ∷ []) [] ++ flat_map (λ x. cond (p x) (f x ∷ []) []) rows
    ≡ map f (cond b (r ∷ filter p rows) (filter p rows)))
    [ true ↦ ap (λ es. f r ∷ es) (matched p f rows) | false ↦ matched p f rows ]

module _ (limit : Option ℕ) (keys : Keys) (s d o : ℤ) (b : List ℕ) (db : Trees) (keyed : IsKeyed (db 0)) where
  abbrev task : Task
  task = record {
    limit = limit;
    keys = keys;
    schema = stable_schema;
    table = stable_table;
    params = Int s ∷ Int d ∷ Int o ∷ Blob b ∷ [];
  }

  abbrev new : Row
  new = row_of (next_rowid (db 0)) s d o b

  abbrev Left : Written → Type 0
  Left w = Saves (db 0) (w.trees 0) s d o b

  adds : (w : Written) → ((r : Row) → Has (db 0) r → has_key s d o r ≡ true → ⊥) → Puts task new db (Ok w) → Left w
  adds w none h =
      let wrote = went h in
      let edit = edit_of db stable_table [] Given 0 (new ∷ []) in
      let a = one_step stable_schema keys db wrote.0 edit refl wrote.1 in
      let same = same_row (next_rowid (db 0)) s d o b in
      inl (record {
        new_key = none;
        is = ap (λ (it : Written). it.trees 0) (same_value wrote.2) ∙ a.rows ∙ ap (λ r. put_row r (db 0)) same;
        fresh = not_taken _ (subst (λ r. (not (is_taken (db 0) r) && true) ≡ true) same a.fresh);
      })

  clears : (found : List Row) (w : Written) → Clears task Abort new db found (Ok w) → Puts task new db (Ok w)
  clears [] w h = h
  clears (x ∷ more) w h = h

  -- what the change is given of a row that has the key
  abbrev given : Row → Row
  given r = Int s ∷ Int d ∷ Int o ∷ Blob b ∷ rowid r ∷ new

  abbrev picks : Row → Row → Bool
  picks r x = list_all (holds (given r ∷ x ∷ [])) change.filter

  abbrev source : Row → Row
  source r = rowid r ∷ rowid r ∷ column r 1 ∷ column r 2 ∷ column r 3 ∷ Blob b ∷ []

  -- the change reads that row alone
  picked : (r : Row) → Has (db 0) r → filter (picks r) (db 0) ≡ r ∷ []
  picked r at =
      let same = same_id (db 0) keyed r at in
      elim (one_kept (picks r) (db 0) keyed (λ x y there here p q. same.1 x there p ∙ sym (same.1 y here q))) [
        | inl none ↦ absurd (subst (λ xs. Has xs r) none (has_kept (picks r) (db 0) r at same.0))
        | inr only ↦
            let kept = has_filtered (picks r) (db 0) only.0 (subst (λ xs. Has xs only.0) (sym only.1) (inl refl)) in
            only.1 ∙ ap (λ x. x ∷ []) (same.1 only.0 kept.0 kept.1)
      ]

  asks : (r : Row) (rows : List Row) → Has (db 0) r → IsAnswer change (overlay db []) (given r) rows
      → rows ≡ source r ∷ []
  asks r rows at a =
      let env : Row → Env = λ x. given r ∷ x ∷ [] in
      let staged : a.staged ≡ env r ∷ [] = a.grouped ∙ matched (picks r) env (db 0) ∙ ap (map env) (picked r at) in
      let kept : a.kept ≡ output change (env r) ∷ [] = a.distinct ∙ ap (map (output change)) staged in
      let ordered = one_permutation (output change (env r)) a.ordered
      (subst (λ k. IsPermutation k a.ordered) kept a.same) in
      a.shown ∙ ap (map (λ (x : Output). x.1)) ordered

  changes : (r : Row) (w : Written) → Has (db 0) r → has_key s d o r ≡ true
      → Updates task (record { lets = []; body = change }) (given r) db (Ok w) → Left w
  changes r w at key h =
      let asked = went h in
      let Next : List Row → Type 0 = λ rows. Then (Edited stable_schema keys db
      (edit_of db stable_table (ids_of rows) Given 1 rows))
      (λ next. Gives (record {
        trees = next;
        rows = (edit_of db stable_table (ids_of rows) Given 1 rows).news;
        last = None;
      })) (Ok w) in
      let wrote = went (subst Next (asks r asked.0 at (asked.1.answer Null)) asked.2) in
      let edit = edit_of db stable_table (ids_of (source r ∷ [])) Given 1 (source r ∷ []) in
      let a = one_step stable_schema keys db wrote.0 edit refl wrote.1 in
      inr (record {
        row = r;
        there = at;
        key = key;
        is = ap (λ (it : Written). it.trees 0) (same_value wrote.2) ∙ a.rows;
        fresh = not_taken _ a.fresh;
      })

  meets : (found : List Row) (w : Written)
      → AreConflicts (Some (1 ∷ 2 ∷ 3 ∷ [])) (key_index ∷ []) stable_table (db 0) new found
      → Meets task (Upserts task Abort new db []) new db over_key found (Ok w) → Left w
  meets [] w c h = adds w (λ r at key. c.complete r at (or_left _ _ key)) (clears h.0 w h.2)
  meets (x ∷ more) w c h =
      let it = c.sound x (inl refl) in
      let key : has_key s d o it.0 ≡ true = elim (or_cases _ _ it.2)
      [ inl key ↦ key | inr none ↦ absurd (true≢false (sym none)) ] in
      changes it.0 w it.1 key
      (subst (λ y. Updates task (record { lets = []; body = change }) (Int s ∷ Int d ∷ Int o ∷ Blob b ∷ rowid y ∷ new)
      db (Ok w)) it.3 h)

  tries : (w : Written) → Tries task Abort (over_key ∷ []) new db (Ok w) → Left w
  tries w (inl h) = absurd (let e = h.1 in cc)
  tries w (inr h) = judged h.0 h.2
    where
      judged : (verdict : Option Refusal) → Judged task Abort (over_key ∷ []) new db verdict (Ok w) → Left w
      judged None it = meets it.0 w it.1 it.2
      judged (Some why) it = absurd (let e = it in cc)

abbrev pub values : ℤ → ℤ → ℤ → List ℕ → Row
values s d o b = Int s ∷ Int d ∷ Int o ∷ Blob b ∷ []

pub does_save : (limit : Option ℕ) (mode : Mode) (db : Trees) (s d o : ℤ) (b : List ℕ) (text : List ℕ)
    (tally : Tally) (after : Database) → IsKeyed (db 0)
    → Does limit mode (values s d o b) (record { schema = stable_schema; trees = db }) text None upsert_command
    (Ok (tally, after))
    → (after.schema ≡ stable_schema) × Saves (db 0) (after.trees 0) s d o b
does_save limit mode db s d o b text tally after keyed h =
    let done = went h in
    let now = ap (λ (p : Tally × Database). p.1) (same_value (went (went done.2).2).2) in
    let given = went done.1 in
    let counted = went given.2 in
    let tried = went counted.2 in
    let last = went tried.2 in
    let doing = task limit mode.keys s d o b db keyed in
    let each = subst (λ rows. TriesEach doing Abort (over_key ∷ []) rows (count_of counted.0) (nothing db) (Ok tried.0))
    given.1.1 tried.1 in
    let one = went each in
    let made = subst (λ r. Tries doing Abort (over_key ∷ []) r db (Ok one.0)) (stored (db 0) s d o b) one.1 in
    let left = tries limit mode.keys s d o b db keyed one.0 made in
    let mid : tried.0.0.trees ≡ one.0.trees = ap (λ (p : Written × ℤ). p.0.trees) (same_value one.2) in
    let next : last.0 ≡ tried.0.0.trees = same_value last.1 in
    let end : done.0.trees ≡ last.0 = ap (λ (it : Written). it.trees) (same_value last.2) in
    let there : after.trees 0 ≡ one.0.trees 0 = ap (λ (d : Database). d.trees 0) now
    ∙ ap (λ (u : Trees). u 0) (end ∙ next ∙ mid) in
    (ap (λ (d : Database). d.schema) now, subst (λ rows. Saves (db 0) rows s d o b) (sym there) left)

-- the database with its schema named
named_schema : (db : Database) (k : Schema) → db.schema ≡ k → db ≡ record { schema = k; trees = db.trees }
named_schema db k e = λ i. record { schema = e i; trees = db.trees }

pub saved : (old new : State) (s d o : ℤ) (b : List ℕ) (count : ℕ) → old.now.schema ≡ stable_schema
    → IsKeyed (old.now.trees 0) → Executes upsert_text (values s d o b) old new (Ok count)
    → Writes old new None upsert_command (statement_of upsert_text (understood stable_schema upsert_text))
    (values s d o b) count
    × (new.now.schema ≡ stable_schema) × Saves (old.now.trees 0) (new.now.trees 0) s d o b
saved old new s d o b count has keyed h =
    let w = runs_as upsert_text (values s d o b) old new stable_schema has upsert_command upsert_is upsert_plain
    count h in
    let text = statement_of upsert_text (understood stable_schema upsert_text) in
    let r = does_save old.step_limit (mode_of old) old.now.trees s d o b text w.tally new.now keyed
    (subst (λ k. Does old.step_limit (mode_of old) (values s d o b) (record old.now { schema = k }) text None
    upsert_command (Ok (w.tally, new.now))) has w.changed) in
    (w, r.0, r.1)

-- what the save may commit
pub commits : (old : State) (s d o : ℤ) (b : List ℕ) (db : Trees) → old.now.schema ≡ stable_schema
    → IsKeyed (old.now.trees 0) → CommitsBy upsert_text (values s d o b) old db
    → Saves (old.now.trees 0) (db 0) s d o b
unfolding CommitsBy
commits old s d o b db has keyed h =
    let known = sym h.1.is ∙ ap (λ k. understood k upsert_text) has in
    let command : h.0.command ≡ upsert_command = ap command_of known ∙ upsert_is in
    let bare = subst IsPlain (sym known) upsert_plain in
    let it : MayCommit old None upsert_command (text_of upsert_text h.0) (values s d o b)
    db = rw (command, bare.0, bare.1) at h.2 in
    elim it [
      | inl other ↦ elim other.0 [ inl is ↦ absurd (let e = is in cc) | inr is ↦ absurd (let e = is.2 in cc) ]
      | inr w ↦
          let text = text_of upsert_text h.0 in
          let done = subst (λ k. Does old.step_limit (mode_of old) (values s d o b) (record old.now { schema = k })
          text None upsert_command (Ok (w.1, w.2))) has w.3 in
          let r = does_save old.step_limit (mode_of old) old.now.trees s d o b text w.1 w.2 keyed done in
          subst (λ (t : Trees). Saves (old.now.trees 0) (t 0) s d o b) (sym w.5) r.1
    ]
