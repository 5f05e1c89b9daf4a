-- The map has the last row of each object.
use Rattle.std.specs.Prelude.{ℕ, ◌≡◌, ◌==◌, nat_lt, if◌then◌else◌, List, [], ◌∷◌, fold, Option, Some, None, Bool}
use Rattle.std.specs.Prelude.{true, false, refl}
use Rattle.std.specs.Option.{option_or}
use Rattle.std.specs.declared.cmp.Ordering.{Ordering}
use Rattle.std.specs.declared.cmp.Ordering.TheVariants.{Less, Equal, Greater}
use Rattle.std.specs.Ordering.{nat_cmp, match_ordering, is_eq}
use Rattle.std.specs.BTreeMap.{insert_entry, is_at}
use Rattle.std.specs.Map.{lookup}
use Rattle.std.proofs.Common.{arith, sym, ap, cond, ◌∙◌}
use Rattle.std.proofs.lemmas.Bool.{eqb-true, eq-eqb}
use Rattle.std.proofs.lemmas.Bool.Decides.{nat_tests}
use Rattle.smi_grant.specs.declared.state.Shown.{Shown}
use Rattle.smi_view.specs.Entries.{entry_of}
use Rattle.smi_view.specs.Rows.{last_row}

abbrev at : ℕ → ℕ → Bool
at x k = is_at (nat_cmp x) k

eq_of : (a b : Bool) → (a ≡ true → b ≡ false) → is_eq (cond a Less (cond b Equal Greater)) ≡ b
eq_of true true h = sym (h refl)
eq_of true false h = refl
eq_of false true h = refl
eq_of false false h = refl

at_is : (x k : ℕ) → at x k ≡ (x == k)
at_is x k = eq_of (nat_lt x k) (x == k) (λ less. grind (arith, nat_tests))

equal_is : (a b : Bool) → cond a Less (cond b Equal Greater) ≡ Equal → b ≡ true
equal_is true b h = cc
equal_is false true h = refl
equal_is false false h = cc

greater_is : (a b : Bool) → cond a Less (cond b Equal Greater) ≡ Greater → b ≡ false
greater_is true b h = cc
greater_is false true h = cc
greater_is false false h = refl

twice : {X : Type 0} (b : Bool) (p q r : Option X) → cond b p r ≡ (if b then p else cond b q r)
twice true p q r = refl
twice false p q r = refl

apart : {X : Type 0} (a b : Bool) (p q r : Option X) → (a ≡ true → b ≡ true → ⊥)
    → cond a p (if b then q else r) ≡ (if b then q else cond a p r)
apart true true p q r h = absurd (h refl refl)
apart true false p q r h = refl
apart false b p q r h = refl

lookup_insert : {X : Type 0} (es : List (ℕ × X)) (k : ℕ) (v : X) (x : ℕ)
    → lookup (at x) (insert_entry nat_cmp es k v) ≡ (if at x k then Some v else lookup (at x) es)
lookup_insert [] k v x = refl
lookup_insert {X} (e ∷ es) k v x = by_order (nat_cmp k e.0) refl (lookup_insert es k v x)
  where
    by_order : (o : Ordering) → nat_cmp k e.0 ≡ o
        → lookup (at x) (insert_entry nat_cmp es k v) ≡ (if at x k then Some v else lookup (at x) es)
        → lookup (at x) (match_ordering o ((k, v) ∷ e ∷ es) ((e.0, v) ∷ es) (e ∷ insert_entry nat_cmp es k v))
        ≡ (if at x k then Some v else lookup (at x) (e ∷ es))
    by_order Less is rest = refl
    by_order Equal is rest =
        let same : e.0 ≡ k = sym (eqb-true k e.0 (equal_is (nat_lt k e.0) (k == e.0) is)) in
        let tests : at x e.0 ≡ at x k = ap (at x) same in
        rw tests (twice (at x k) (Some v) (Some e.1) (lookup (at x) es))
    by_order Greater is rest =
        let other : (k == e.0) ≡ false = greater_is (nat_lt k e.0) (k == e.0) is in
        rw rest (apart (at x e.0) (at x k) (Some e.1) (Some v) (lookup (at x) es)
        (λ first second.
        let one : x ≡ e.0 = eqb-true x e.0 (sym (at_is x e.0) ∙ first) in
        let two : x ≡ k = eqb-true x k (sym (at_is x k) ∙ second) in
        let both : (k == e.0) ≡ true = eq-eqb k e.0 (sym two ∙ one) in cc))

later : (o : Option Shown) (b : Bool) (r : Shown) (p : Option Shown)
    → option_or o (if b then Some r else p) ≡ option_or (option_or o (if b then Some r else None)) p
later (Some s) b r p = refl
later None true r p = refl
later None false r p = refl

last_from : (es : List (ℕ × Shown)) (rows : List Shown) (x : ℕ)
    → lookup (at x) (fold (λ (entries : List (ℕ × Shown)) (row : Shown). insert_entry nat_cmp entries row.object row)
    es rows) ≡ option_or (last_row x rows) (lookup (at x) es)
last_from es [] x = refl
last_from es (r ∷ rows) x =
    let tests : at x r.object ≡ (r.object == x) = at_is x r.object ∙ grind (arith, nat_tests) in
    last_from (insert_entry nat_cmp es r.object r) rows x
    ∙ ap (λ o. option_or (last_row x rows) o) (lookup_insert es r.object r x)
    ∙ rw tests (later (last_row x rows) (r.object == x) r (lookup (at x) es))

no_more : (o : Option Shown) → option_or o None ≡ o
no_more None = refl
no_more (Some s) = refl

pub entry_is : (rows : List Shown) (x : ℕ) → entry_of x rows ≡ last_row x rows
entry_is rows x = last_from [] rows x ∙ no_more (last_row x rows)
