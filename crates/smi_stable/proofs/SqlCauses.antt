-- Why a statement of the store fails.
use Rattle.std.proofs.Common.{◌≡◌, inl, inr, ℕ, List, [], ◌∷◌, length, false, true≢false, Option, Some, None, Result}
use Rattle.std.proofs.Common.{Ok, Err, IsTrue, refl, sym, ap, subst, ◌∙◌, arith}
use Rattle.sqlite.specs.declared.types.Value.TheVariants.{Null}
use Rattle.sqlite.specs.Order.{Row}
use Rattle.sqlite_trees.specs.declared.error.StoreError.{StoreError}
use Rattle.sqlite_trees.specs.declared.error.StoreError.TheVariants.{OutOfMemory, Io, Corrupt, Full, Broken}
use Rattle.sqlite_trees.specs.declared.error.StoreError.TheVariants.{Unstorable}
use Rattle.sqlite_resolve.specs.declared.compiled.Compiled.{Compiled}
use Rattle.sqlite_resolve.specs.declared.error.CompileError.{CompileError}
use Rattle.sqlite.specs.declared.error.Error.{Error}
use Rattle.sqlite.specs.Listing.{understood}
use Rattle.sqlite.specs.Clock.{timed}
use Rattle.sqlite.specs.Command.{Command}
use Rattle.sqlite.specs.Command.TheVariants.{CreateTable}
use Rattle.sqlite.specs.Does.{Does}
use Rattle.sqlite.specs.State.{State, mode_of, text_of, shows_rows, HasCause, Fails, RunsCommand, Executes}
use Rattle.sqlite.specs.State.{ExecutesIn, IsMisplaced, IsNoStatement, IsNotRun, store_error}
use Rattle.sqlite.proofs.Callers.{IsPlain, command_of, statement_of}
use Rattle.sqlite_tied.specs.Compute.{everything}
use Rattle.smi_stable.specs.SqlTable.{create_text, upsert_text, stable_schema, no_schema}
use Rattle.smi_stable.specs.SqlFault.{fault_of, HasReason}
use Rattle.smi_stable.proofs.SqlTexts.{create_is}
use Rattle.smi_stable.proofs.SqlMakes.{create_plain, create_text_is}
use Rattle.smi_stable.proofs.SqlRefuses.{does_not_refuse}

caused : (old new : State) (too_big : Type 0) → IsTrue old.is_open → (¬ too_big) → (cause : StoreError)
    → HasCause old new too_big cause → HasReason old new (fault_of (store_error cause))
caused old new too_big live small OutOfMemory it = inl refl
caused old new too_big live small Io it = inr (refl, it)
caused old new too_big live small Corrupt it = inr (refl, it)
caused old new too_big live small Full it = inr (refl, it)
caused old new too_big live small Broken it = absurd (true≢false (sym live ∙ it))
caused old new too_big live small Unstorable it = absurd (small it)

-- an open connection fails because memory ran out, or with its disk
pub reason : (old new : State) (too_big : Type 0) (e : Error) → IsTrue old.is_open → (¬ too_big)
    → Fails old new too_big e → HasReason old new (fault_of e)
reason old new too_big e live small h = subst (λ (it : Error). HasReason old new (fault_of it)) (sym h.1)
    (caused old new too_big live small h.0 h.2)

-- the text is one whole statement, with so many parameters
abbrev pub IsWhole : List ℕ → ℕ → Result Compiled CompileError → Type 0
IsWhole sql given (Ok c) = (c.tail ≡ length sql) × (given ≡ length c.names) × (c.formats ≡ [])
IsWhole sql given (Err e) = ⊥

pub is_statement : (s : State) (sql : List ℕ) (params : Row) (e : Error)
    → IsWhole sql (length params) (understood s.now.schema sql) → ¬ IsNoStatement s sql params e
is_statement s sql params e whole (inl h) = subst (IsWhole sql (length params)) h.1 whole
is_statement s sql params e whole (inr h) =
    let it = subst (IsWhole sql (length params)) h.1 whole in
    elim h.2 [
      | inl cut ↦ cut.0 (omega (arith, it.0))
      | inr other ↦ elim other [ inl count ↦ count.0 it.1 | inr timed ↦ timed.0 it.2 ]
    ]

abbrev four : Row
four = Null ∷ Null ∷ Null ∷ Null ∷ []

upsert_whole : IsWhole upsert_text 4 (understood stable_schema upsert_text)
unfolding understood everything
upsert_whole = (refl, refl, refl)

-- a save is prepared on the table of stable rows, if the connection does not fail
pub prepared : (old new : State) (e : Error) → old.now.schema ≡ stable_schema → IsTrue old.is_open
    → ((params : Row) → IsNotRun old new upsert_text params e) → HasReason old new (fault_of e)
unfolding IsNotRun
prepared old new e has live h = elim (h four) [
  | inl it ↦ absurd (is_statement old upsert_text four e
      (subst (λ s. IsWhole upsert_text 4 (understood s upsert_text)) (sym has) upsert_whole) it.0)
  | inr it ↦ reason old new ⊥ e live (λ never. never) it
]

create_whole : IsWhole create_text 0 (understood no_schema create_text)
unfolding understood everything
create_whole = (refl, refl, refl)

not_misplaced : (s : State) (command : Command) (e : Error) → command ≡ CreateTable → ¬ IsMisplaced s command e
not_misplaced s command e is (inl h) = elim h.1 [
  | inl it ↦ absurd (let both = sym is ∙ it.0 in cc)
  | inr it ↦ elim it.0 [
    | inl ended ↦ absurd (let both = sym is ∙ ended in cc)
    | inr ended ↦
        absurd (let both = sym is ∙ ended in cc)
  ]
]
not_misplaced s command e is (inr h) = elim h.2
    [ inl it ↦ absurd (let both = sym is ∙ it in cc) | inr it ↦ absurd (let both = sym is ∙ it in cc) ]

-- the table is made where there is none, if the connection does not fail
pub made_or : (old new : State) (e : Error) → old.now.schema ≡ no_schema → IsTrue old.is_open
    → Executes create_text [] old new (Err e) → HasReason old new (fault_of e)
unfolding ExecutesIn IsNotRun
made_or old new e has live (inl (inl h)) =
    absurd (is_statement old create_text [] e (subst (λ s. IsWhole create_text 0 (understood s create_text)) (sym has)
    create_whole) h.0)
made_or old new e has live (inl (inr h)) = reason old new ⊥ e live (λ never. never) h
made_or old new e has live (inr h) =
    let known = sym h.1.is ∙ ap (λ s. understood s create_text) has in
    let command : h.0.command ≡ CreateTable = ap command_of known ∙ create_is in
    let bare = subst IsPlain (sym known) create_plain in
    let text : text_of create_text h.0 ≡ create_text = ap (statement_of create_text) known ∙ create_text_is in
    let params = timed [] h.0.formats h.1.now in
    let quiet : shows_rows false h.0 ≡ false = rw (command, bare.0) refl in
    let ran : RunsCommand old new create_text h.0 params (Err e) = rw quiet at h.2 in
    let Stops : Option Error → Type 0 = λ stop. Does old.step_limit (mode_of old) params old.now
    (text_of create_text h.0) h.0.returning h.0.command (Err stop) in
    let never : (stop : Option Error) → ¬ Stops stop = λ stop it.
    does_not_refuse old.step_limit (mode_of old) params old.now stop has
    (subst (λ t. Does old.step_limit (mode_of old) params old.now t None CreateTable (Err stop)) text
    (rw (command, bare.0) at it)) in
    elim ran [
      | inl it ↦ elim it.0 [
        | inl misplaced ↦ absurd (not_misplaced old h.0.command e command misplaced)
        | inr
            refused ↦ absurd (never (Some e) refused.1)
      ]
      | inr it ↦ reason old new (Stops None) e live (never None) it
    ]
