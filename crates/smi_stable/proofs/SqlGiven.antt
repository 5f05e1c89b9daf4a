-- What is known of a connection that was not taken over.
use Rattle.std.proofs.Common.{◌≡◌, ◌⊎◌, inl, inr, ℕ, [], false, Ok, IsTrue, sym, ◌∙◌}
use Rattle.sqlite.specs.Tree.{Trees}
use Rattle.sqlite.specs.State.{State, HasCleanDisk, IsUnchanged, IsRolledBack, Survives, Executes, CommitsBy}
use Rattle.smi_stable.specs.SqlTable.{create_text, no_schema}
use Rattle.smi_stable.specs.SqlGivenBack.{IsGivenBack, MayBeMade}
use Rattle.smi_stable.proofs.SqlKeeps.{clean_before, opened}
use Rattle.smi_stable.proofs.SqlMakes.{creates, may_make}

same-mode : (old new : State) → old.in_transaction ≡ false → IsUnchanged old new ⊎ IsRolledBack old new
    → new.in_transaction ≡ old.in_transaction
same-mode old new auto (inl h) = h.0.mode
same-mode old new auto (inr h) = h.autocommit ∙ sym auto

same-now : (old new : State) → (IsTrue old.is_open → old.now ≡ old.committed)
    → IsUnchanged old new ⊎ IsRolledBack old new → IsTrue new.is_open → new.now ≡ old.now
same-now old new settled (inl h) live = h.0.now_is
same-now old new settled (inr h) live = (h.undone live).0 ∙ sym (settled (h.was_open live))

left : (old new : State) → old.now.schema ≡ no_schema → HasCleanDisk new
    → Survives old new (CommitsBy create_text [] old) → (db : Trees) → new.may_leave db
    → old.may_leave db ⊎ MayBeMade old db
left old new has clean s db may = elim (s.crash clean db may)
    [ inl before ↦ inl before | inr after ↦ inr (has, may_make old db has after) ]

-- the table was not made
pub not-made : (old new : State) → old.in_transaction ≡ false → (IsTrue old.is_open → old.now ≡ old.committed)
    → old.now.schema ≡ no_schema → HasCleanDisk new
    → IsUnchanged old new ⊎ IsRolledBack old new → Survives old new (CommitsBy create_text [] old) → IsGivenBack old new
not-made old new auto settled has clean undone s = record {
  clean = clean_before old new _ s clean;
  mode = same-mode old new auto undone;
  was_open = opened old new undone;
  kept = λ live. inl (same-now old new settled undone live);
  crash = left old new has clean s;
}

-- the table was made
pub was-made : (old new : State) (count : ℕ) → old.now.schema ≡ no_schema → HasCleanDisk new
    → Executes create_text [] old new (Ok count) → Survives old new (CommitsBy create_text [] old) → IsGivenBack old new
was-made old new count has clean h s =
    let m = creates old new count has h in
    record {
      clean = clean_before old new _ s clean;
      mode = m.0.shown.mode;
      was_open = λ _. m.0.shown.was_open;
      kept = λ _. inr (has, m.1, m.2);
      crash = left old new has clean s;
    }
