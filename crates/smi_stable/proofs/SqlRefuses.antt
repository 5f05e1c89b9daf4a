-- A database without a table does not refuse the table of stable rows.
use Rattle.std.proofs.Common.{◌≡◌, ◌⊎◌, inl, inr, ℕ, ◌+◌, ◌*◌, ◌^◌, ◌≤◌, List, [], ◌∷◌, length, codes, true, false}
use Rattle.std.proofs.Common.{true≢false, Option, Some, None, Ok, Err, refl, sym, ap, subst, ◌∙◌, arith}
use lib.Ieee.{is_nan, lt}
use lib.Utf8.{encode}
use Rattle.std.specs.Str.{IsUtf8, chars, is_utf8}
use Rattle.std.proofs.lemmas.Str.{IsUtf8-from_is_utf8}
use Rattle.sqlite.specs.declared.types.Value.TheVariants.{Text}
use Rattle.sqlite.specs.Order.{Row}
use Rattle.sqlite.specs.Table.{Table}
use Rattle.sqlite.specs.Compile.{table_defined_by}
use Rattle.sqlite.specs.Change.{created, next_tree}
use Rattle.sqlite.specs.Command.TheVariants.{CreateTable}
use Rattle.sqlite.specs.Does.{Does, MakesTable, lacks_sequence}
use Rattle.sqlite.specs.Effect.{Database}
use Rattle.sqlite.specs.declared.error.Error.{Error}
use Rattle.sqlite.specs.declared.run.Mode.{Mode}
use Rattle.sqlite_catalog.specs.declared.error.Refusal.{Refusal}
use Rattle.sqlite_catalog.specs.declared.error.Refusal.TheVariants.{Invalid, NameTaken, BadName, TooBig, BadKey}
use Rattle.sqlite_catalog.specs.declared.error.Refusal.TheVariants.{BadText, Violates}
use Rattle.sqlite_catalog.specs.Calls.{RefusesTable, IsLongTable, CreatesTable}
use Rattle.sqlite_catalog.specs.Change.{is_reserved}
use Rattle.sqlite_catalog.specs.Listing.{is_formed, is_fit}
use Rattle.sqlite_rules.specs.Lists.{Has}
use Rattle.sqlite_schema.specs.Rules.{table_reals, index_reals}
use Rattle.sqlite_tied.specs.Compute.{everything}
use Rattle.sqlite_trees.specs.Sound.{fits_kind, is_free_name, same_name, begins}
use Rattle.sqlite_value.specs.Order.{value_cmp}
use Rattle.smi_stable.specs.SqlTable.{create_text, stable_table, stable_schema, no_schema}
use Rattle.smi_stable.proofs.SqlTexts.{defined, made}

the_table : (t : Table) → table_defined_by create_text ≡ Ok t → t ≡ stable_table
the_table t is = let both : Ok t ≡ Ok stable_table = sym is ∙ defined in cc

text_utf8 : IsUtf8 create_text
unfolding is_utf8 chars encode
text_utf8 = IsUtf8-from_is_utf8 create_text refl

name_utf8 : IsUtf8 stable_table.name
unfolding is_utf8 chars encode
name_utf8 = IsUtf8-from_is_utf8 stable_table.name refl

not_reserved : is_reserved stable_table.name ≡ false
unfolding everything
not_reserved = refl

formed : is_formed stable_table ≡ true
unfolding everything
formed = refl

fit : is_fit (Text (codes "table")) (Text stable_table.name) (Text stable_table.name) (Text create_text) ≡ true
unfolding fits_kind is_free_name same_name begins value_cmp is_nan lt
fit = refl

not_long : ¬ IsLongTable create_text
not_long h =
    let bound : 10 ^ 9 ≤ 2 * length stable_table.name + length create_text
    + 200 = subst (λ (t : Table). 10 ^ 9 ≤ 2 * length t.name + length create_text + 200) (the_table h.0 h.1) h.2 in
    absurd (omega (arith, bound))

no_reals : table_reals stable_table ≡ 0
unfolding everything
no_reals = refl

abbrev IsTooBig : Table → Type 0
IsTooBig t = (65536 ≤ next_tree no_schema + length t.uniques)
    ⊎ ((2 ^ 64 ≤ table_reals t) ⊎ ((key : List ℕ) × Has t.uniques key × (2 ^ 64 ≤ index_reals (table_reals t) key)))

small_key : (key : List ℕ) → Has stable_table.uniques key → ¬ (2 ^ 64 ≤ index_reals (table_reals stable_table) key)
small_key key (inl it) h =
    let bound : 2 ^ 64 ≤ index_reals 0 (1 ∷ 2 ∷ 3 ∷ []) = subst (λ n. 2 ^ 64 ≤ index_reals n (1 ∷ 2 ∷ 3 ∷ []))
    no_reals (subst (λ k. 2 ^ 64 ≤ index_reals (table_reals stable_table) k) it h) in
    absurd (omega (arith, bound))
small_key key (inr it) h = it

not_big : ¬ RefusesTable no_schema create_text TooBig
not_big h = elim (subst IsTooBig (the_table h.0 h.1) h.2) [
  | inl it ↦ absurd (omega (arith, it))
  | inr other ↦ elim other [
    | inl it ↦ absurd (let bound : 2 ^ 64 ≤ 0 = subst (λ n. 2 ^ 64 ≤ n) no_reals it in omega (arith, bound))
    | inr it ↦ small_key it.0 it.1 it.2
  ]
]

refused : (why : Refusal) → ¬ RefusesTable no_schema create_text why
refused (Invalid e) h = absurd (let it = sym defined ∙ h in cc)
refused NameTaken h = elim h.2 [ inl it ↦ absurd (true≢false (sym it)) | inr it ↦ absurd (true≢false (sym it.2)) ]
refused BadName h = elim h.2 [
  | inl it ↦ absurd (it (subst (λ (t : Table). IsUtf8 t.name) (sym (the_table h.0 h.1)) name_utf8))
  | inr it ↦ absurd (true≢false (sym it.0 ∙ ap (λ (t : Table). is_reserved t.name) (the_table h.0 h.1) ∙ not_reserved))
]
refused TooBig h = not_big h
refused BadKey h = absurd (true≢false (sym formed ∙ ap is_formed (sym (the_table h.0 h.1)) ∙ h.2))
refused BadText h =
    absurd (true≢false
    (sym fit ∙ ap (λ (t : Table). is_fit (Text (codes "table")) (Text t.name) (Text t.name) (Text create_text))
    (sym (the_table h.0 h.1)) ∙ h.2))
refused (Violates rule) h = h

not_made : (db : Database) (stop : Option Error) → db.schema ≡ no_schema → ¬ MakesTable create_text db (Err stop)
not_made db None has h = not_long h
not_made db (Some e) has (inl h) = h.0 text_utf8
not_made db (Some e) has (inr h) = refused h.0 (subst (λ s. RefusesTable s create_text h.0) has h.1)

counted : (db after : Database) → db.schema ≡ no_schema
    → CreatesTable db.schema create_text db.trees after.schema after.trees → lacks_sequence after.schema ≡ false
counted db after has it =
    let schema : after.schema ≡ stable_schema = it.is ∙ ap (λ s. created s it.table) has
    ∙ ap (created no_schema) (the_table it.table it.defined) ∙ made in
    ap lacks_sequence schema

-- the table is made, unless the store fails
pub does_not_refuse : (limit : Option ℕ) (mode : Mode) (params : Row) (db : Database) (stop : Option Error)
    → db.schema ≡ no_schema → ¬ Does limit mode params db create_text None CreateTable (Err stop)
does_not_refuse limit mode params db stop has h = elim h [
  | inl it ↦ elim it.1 [
    | inl first ↦ not_made db first.0 has first.1
    | inr second ↦
        let plain = counted db second.0 has second.1 in
        absurd (let e = rw plain at second.2 in cc)
  ]
  | inr it ↦ absurd (let e = it.2 in cc)
]
