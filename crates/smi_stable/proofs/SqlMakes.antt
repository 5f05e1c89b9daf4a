-- What the statement that makes the table does.
use Rattle.std.proofs.Common.{◌≡◌, inl, inr, ℕ, [], false, Option, None, Ok, Result, refl, sym, ap, subst, ◌∙◌}
use Rattle.sqlite.specs.Change.{created, next_tree}
use Rattle.sqlite.specs.Clock.{timed}
use Rattle.sqlite.specs.Order.{Row}
use Rattle.sqlite.specs.Command.TheVariants.{CreateTable}
use Rattle.sqlite.specs.Does.{Tally, Does, lacks_sequence}
use Rattle.sqlite.specs.Effect.{Database}
use Rattle.sqlite.specs.Listing.{understood}
use Rattle.sqlite.specs.State.{State, mode_of, Writes, Executes, CommitsBy, MayCommit, text_of}
use Rattle.sqlite.specs.declared.run.Mode.{Mode}
use Rattle.sqlite.specs.Tree.{Trees}
use Rattle.sqlite.proofs.Callers.{IsPlain, command_of, statement_of, runs_as}
use Rattle.sqlite_tied.specs.Compute.{everything}
use Rattle.smi_stable.specs.SqlTable.{create_text, stable_table, stable_schema, no_schema}
use Rattle.smi_stable.proofs.SqlTexts.{defined, made, create_is}
use Rattle.smi_stable.proofs.SqlSaves.{went}

pub create_plain : IsPlain (understood no_schema create_text)
unfolding understood everything
create_plain = (refl, refl)

pub create_text_is : statement_of create_text (understood no_schema create_text) ≡ create_text
unfolding understood everything
create_text_is = refl

same_value : {B E : Type 0} {a b : B} → ◌≡◌ {A = Result B E} (Ok a) (Ok b) → a ≡ b
same_value e = cc

-- what the statement makes of a database without a table
does_make : (limit : Option ℕ) (mode : Mode) (params : Row) (db : Database) (tally : Tally) (after : Database)
    → db.schema ≡ no_schema → Does limit mode params db create_text None CreateTable (Ok (tally, after))
    → (after.schema ≡ stable_schema) × (after.trees 0 ≡ [])
does_make limit mode params db tally after has h =
    let all = went h in
    let first = went all.1 in
    let it = first.1 in
    let both : Ok it.table ≡ Ok stable_table = sym it.defined ∙ defined in
    let same : it.table ≡ stable_table = cc in
    let schema : first.0.schema ≡ stable_schema = it.is ∙ ap (λ s. created s it.table) has
    ∙ ap (created no_schema) same ∙ made in
    let plain : lacks_sequence first.0.schema ≡ false = ap lacks_sequence schema in
    let now : after ≡ first.0 = ap (λ (p : Tally × Database). p.1) (same_value all.2)
    ∙ same_value (rw plain at first.2) in (
      ap (λ (d : Database). d.schema) now ∙ schema,
      ap (λ (d : Database). d.trees 0) now ∙ subst (λ s. first.0.trees (next_tree s) ≡ []) has it.empty,
    )

pub creates : (old new : State) (count : ℕ) → old.now.schema ≡ no_schema → Executes create_text [] old new (Ok count)
    → Writes old new None CreateTable create_text [] count × (new.now.schema ≡ stable_schema) × (new.now.trees 0 ≡ [])
creates old new count has h =
    let w = subst (λ t. Writes old new None CreateTable t [] count) create_text_is
    (runs_as create_text [] old new no_schema has CreateTable create_is create_plain count h) in
    let m = does_make old.step_limit (mode_of old) [] old.now w.tally new.now has w.changed in
    (w, m.0, m.1)

-- what a stop inside the statement may commit
pub may_make : (old : State) (db : Trees) → old.now.schema ≡ no_schema → CommitsBy create_text [] old db → db 0 ≡ []
unfolding CommitsBy
may_make old db has h =
    let known = sym h.1.is ∙ ap (λ k. understood k create_text) has in
    let command : h.0.command ≡ CreateTable = ap command_of known ∙ create_is in
    let bare = subst IsPlain (sym known) create_plain in
    let text : text_of create_text h.0 ≡ create_text = ap (statement_of create_text) known ∙ create_text_is in
    let params = timed [] h.0.formats h.1.now in
    let it : MayCommit old None CreateTable (text_of create_text h.0) params db = rw (command, bare.0) at h.2 in
    elim it [
      | inl other ↦ elim other.0 [ inl is ↦ absurd (let e = is in cc) | inr is ↦ absurd (let e = is.2 in cc) ]
      | inr w ↦
          let done = subst (λ t. Does old.step_limit (mode_of old) params old.now t None CreateTable (Ok (w.1, w.2)))
          text w.3 in
          ap (λ (t : Trees). t 0) w.5 ∙ (does_make old.step_limit (mode_of old) params old.now w.1 w.2 has done).1
    ]
