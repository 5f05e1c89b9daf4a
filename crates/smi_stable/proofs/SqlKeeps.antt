-- What a save keeps of a connection.
use Rattle.std.proofs.Common.{◌≡◌, ◌⊎◌, inl, inr, ℕ, pos, List, false, true≢false, if◌then◌else◌, Option, Some, Ok}
use Rattle.std.proofs.Common.{Err, IsTrue, refl, sym, ap, subst, ◌∙◌, arith}
use Rattle.std.proofs.lemmas.Bool.{cases_Bool}
use Rattle.sqlite.specs.Order.{Row}
use Rattle.std.proofs.Common.{[], ◌∷◌}
use Rattle.sqlite.specs.declared.types.Value.TheVariants.{Blob}
use Rattle.sqlite.specs.Tree.{Trees}
use Rattle.sqlite.specs.Effect.{Database}
use Rattle.sqlite.specs.declared.error.Error.{Error}
use Rattle.sqlite.specs.Command.{Command}
use Rattle.sqlite.specs.Command.TheVariants.{Select, Insert, InsertOr, Update, Delete, CreateTable, CreateIndex}
use Rattle.sqlite.specs.Command.TheVariants.{DropTable, DropIndex, Begin, Commit, Rollback, Savepoint as Save}
use Rattle.sqlite.specs.Command.TheVariants.{Release, RollbackTo, Nothing, CreateView, DropView, Rows}
use Rattle.sqlite_schema.specs.declared.command.Returning.{Returning}
use Rattle.sqlite.specs.State.{State, HasCleanDisk, Runs, IsUnchanged, IsRolledBack, Survives, Executes, ExecutesIn}
use Rattle.sqlite.specs.State.{IsNotRun, IsLive, CommitsBy, shows_rows}
use Rattle.smi_rows.specs.declared.key.Key.{Key}
use Rattle.smi_stable.specs.SqlTable.{upsert_text}
use Rattle.sqlite_schema.specs.Rules.{Keeps}
use Rattle.sqlite_schema.specs.declared.schema.Constraint.TheVariants.{Datatype, Unique}
use Rattle.smi_stable.specs.SqlRows.{IsKeyed}
use Rattle.smi_rows.specs.Store.{IsSame, with_row}
use Rattle.smi_stable.specs.SqlReady.{IsAtRest, rows_in, rows_of, LeavesEither}
use Rattle.smi_stable.proofs.SqlKeys.{key-agrees}
use Rattle.smi_stable.proofs.SqlSaves.{Saves, values, saved, commits}
use Rattle.smi_stable.proofs.SqlReplaced.{replaced, still_keyed}

pub fails : (old new : State) (sql : List ℕ) (params : Row) (e : Error) → Executes sql params old new (Err e)
    → IsUnchanged old new ⊎ IsRolledBack old new
unfolding ExecutesIn IsNotRun
fails old new sql params e (inl (inl h)) = inl h.1
fails old new sql params e (inl (inr h)) = inr h.3
fails old new sql params e (inr h) = elim (cases_Bool (shows_rows false h.0)) [
  | inl shows ↦ inl (rw shows at h.2).1
  | inr runs ↦ elim (rw runs at h.2) [ inl it ↦ inl it.1 | inr it ↦ inr it.3 ]
]

pub clean_before : (old new : State) (P : Trees → Type 0) → Survives old new P → HasCleanDisk new → HasCleanDisk old
clean_before old new P s clean = let below = s.clean in omega (arith, clean)

abbrev pub StillAt : State → State → Type 0
StillAt old new = (new.in_transaction ≡ false) × (IsTrue new.is_open → IsAtRest new × (new.now ≡ old.now))

same_rest : (old new : State) → IsAtRest old → new.now ≡ old.now → new.committed ≡ old.committed → IsAtRest new
same_rest old new r now committed = record {
  schema = ap (λ (d : Database). d.schema) now ∙ r.schema;
  keyed = subst (λ (d : Database). IsKeyed (d.trees 0)) (sym now) r.keyed;
  settled = committed ∙ r.settled ∙ sym now;
}

pub still : (old new : State) → old.in_transaction ≡ false → (IsTrue old.is_open → IsAtRest old)
    → IsUnchanged old new ⊎ IsRolledBack old new → StillAt old new
still old new auto rest (inl h) = (
  h.0.mode ∙ auto,
  λ live. (same_rest old new (rest h.0.was_open) h.0.now_is h.0.committed_is, h.0.now_is),
)
still old new auto rest (inr h) = (
  h.autocommit,
  λ live.
      let r = rest (h.was_open live) in
      let u = h.undone live in
      let now : new.now ≡ old.now = u.0 ∙ r.settled in
      (same_rest old new r now u.1, now),
)

ran_open : (old new : State) (r : Option Returning) (command : Command) (text : List ℕ) (params : Row) (count : ℕ)
    → old.in_transaction ≡ false → Runs old new r command text params count → IsTrue old.is_open
ran_open old new r (Select q names) text params count auto h = absurd h
ran_open old new r (Insert at from) text params count auto h = h.shown.was_open
ran_open old new r (InsertOr at how from clauses) text params count auto h = h.shown.was_open
ran_open old new r (Update at q) text params count auto h = h.shown.was_open
ran_open old new r (Delete at q) text params count auto h = h.shown.was_open
ran_open old new r CreateTable text params count auto h = h.shown.was_open
ran_open old new r (CreateIndex at) text params count auto h = h.shown.was_open
ran_open old new r (DropTable at) text params count auto h = h.shown.was_open
ran_open old new r (DropIndex at) text params count auto h = h.shown.was_open
ran_open old new r Begin text params count auto h = h.1.was_open
ran_open old new r Commit text params count auto h = h.1.was_open
ran_open old new r Rollback text params count auto h = absurd (true≢false (sym h.0 ∙ auto))
ran_open old new r (Save name) text params count auto h = h.0.0.was_open
ran_open old new r (Release name) text params count auto h =
    elim h.2 [ inl it ↦ it.1.0.was_open | inr it ↦ it.1.0.was_open ]
ran_open old new r (RollbackTo name) text params count auto h = h.2.2.was_open
ran_open old new r (Rows values width names) text params count auto h = h.0.0.was_open
ran_open old new r Nothing text params count auto h = h.0.0.was_open
ran_open old new r CreateView text params count auto h = h.shown.was_open
ran_open old new r (DropView at) text params count auto h = h.shown.was_open

pub was_open : (old new : State) (sql : List ℕ) (params : Row) (count : ℕ) → old.in_transaction ≡ false
    → Executes sql params old new (Ok count) → IsTrue old.is_open
unfolding ExecutesIn
was_open old new sql params count auto h = elim (cases_Bool (shows_rows false h.0)) [
  | inl shows ↦ absurd (let e = (rw shows at h.2).0 in cc)
  | inr runs ↦ ran_open old new _ _ _ _ count auto (rw runs at h.2)
]

same_rows : (old : State) (new : Trees) (key : Key) (b : List ℕ) → IsTrue old.is_open → IsLive old → IsAtRest old
    → Saves (old.now.trees 0) (new 0) (pos key.station) (pos key.domain) (pos key.operator) b
    → IsSame (rows_in new) (with_row key b (rows_of old))
same_rows old new key b was live r h k =
    let rules = (live was).0.obeys.rules in
    let typed = subst (λ x. Keeps Datatype x old.now.trees) r.schema (rules Datatype) in
    let unique = subst (λ x. Keeps Unique x old.now.trees) r.schema (rules Unique) in
    replaced old.now.trees r.keyed (pos key.station) (pos key.domain) (pos key.operator) b (new 0) typed unique h
    (pos k.station) (pos k.domain) (pos k.operator)
    ∙ ap (λ t. if t then Some b else rows_of old k) (key-agrees key k (Blob b ∷ []) (pos 0))

pub saves : (old new : State) (key : Key) (b : List ℕ) (count : ℕ) → old.in_transaction ≡ false
    → (IsTrue old.is_open → IsAtRest old) → IsLive old
    → Executes upsert_text (values (pos key.station) (pos key.domain) (pos key.operator) b) old new (Ok count)
    → (new.in_transaction ≡ false) × IsTrue new.is_open × IsAtRest new
    × IsSame (rows_of new) (with_row key b (rows_of old))
saves old new key b count auto rest live h =
    let was = was_open old new upsert_text _ count auto h in
    let r = rest was in
    let it = saved old new (pos key.station) (pos key.domain) (pos key.operator) b count r.schema r.keyed h in
    let shown = it.0.shown in
    let committed : new.committed ≡ new.now = shown.committed_is ∙ rw auto refl in (
      shown.mode ∙ auto,
      shown.is_open,
      record {
        schema = it.1;
        keyed = still_keyed old.now.trees r.keyed (pos key.station) (pos key.domain) (pos key.operator) b
            (new.now.trees 0) it.2;
        settled = committed;
      },
      same_rows old new.now.trees key b was live r it.2,
    )

-- a crash leaves the rows as before or as saved, where the last commit is all that it could leave before
pub crashes : (old new : State) (key : Key) (b : List ℕ) → IsTrue old.is_open → IsLive old → IsAtRest old
    → ((db : Trees) → old.may_leave db → db ≡ old.committed.trees) → HasCleanDisk new
    → Survives old new (CommitsBy upsert_text (values (pos key.station) (pos key.domain) (pos key.operator) b) old)
    → LeavesEither old new key b
crashes old new key b was live r only clean s db may = elim (s.crash clean db may) [
  | inl before ↦ inl (λ k. ap (λ (t : Trees). rows_in t k) (only db before ∙ ap (λ (d : Database). d.trees) r.settled))
  | inr after ↦
      inr (same_rows old db key b was live r
      (commits old (pos key.station) (pos key.domain) (pos key.operator) b db r.schema r.keyed after))
]

pub not_run : (old new : State) (sql : List ℕ) (params : Row) (e : Error) → IsNotRun old new sql params e
    → IsUnchanged old new ⊎ IsRolledBack old new
unfolding IsNotRun
not_run old new sql params e (inl h) = inl h.1
not_run old new sql params e (inr h) = inr h.3

-- a connection that is open was open before
pub opened : (old new : State) → IsUnchanged old new ⊎ IsRolledBack old new → IsTrue new.is_open → IsTrue old.is_open
opened old new (inl h) live = h.0.was_open
opened old new (inr h) live = h.was_open live
