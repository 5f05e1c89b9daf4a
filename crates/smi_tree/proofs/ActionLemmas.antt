-- The index of accepted actions when one is added.
use Rattle.std.proofs.Common.{◌≡◌, ℕ, Bool, true, false, cond, List, [], ◌∷◌, ◌++◌, refl, ap, ◌∙◌, sym}
use Rattle.std.specs.Prelude.{◌==◌, ◌||◌, nat_eq}
use Rattle.std.specs.List.{list_any}
use Rattle.std.specs.HashSet.{contains, HashSet}
use Rattle.std.specs.declared.hash.FoldHasher.{FoldHasher}
use Rattle.std.specs.declared.hash.BuildHasherDefault.{BuildHasherDefault}
use Rattle.smi_tree.specs.ActionIndex.{IsActionIndex}

list_any-more : (p : ℕ → Bool) (rows : List ℕ) (action : ℕ)
    → list_any p (rows ++ action ∷ []) ≡ cond (p action) true (list_any p rows)
list_any-more p [] action = go (p action)
  where
    go : (b : Bool) → (b || false) ≡ cond b true false
    go true = refl
    go false = refl
list_any-more p (row ∷ rows) action = go (p row) (p action) (list_any-more p rows action)
  where
    go : (b c : Bool) → list_any p (rows ++ action ∷ []) ≡ cond (p action) true (list_any p rows) →
        (b || list_any p (rows ++ action ∷ [])) ≡ cond (p action) true (b || list_any p rows)
    go true c later = true-either (p action)
      where
        true-either : (b : Bool) → true ≡ cond b true true
        true-either true = refl
        true-either false = refl
    go false c later = later

pub IsActionIndex-push : (rows : List ℕ) (action : ℕ) (old new : HashSet ℕ (BuildHasherDefault FoldHasher))
    → IsActionIndex rows old →
    ((q : ℕ) → contains nat_eq new q ≡ cond (nat_eq action q) true (contains nat_eq old q))
    → IsActionIndex (rows ++ action ∷ []) new
IsActionIndex-push rows action old new h updates = record {
  found = λ q. updates q ∙ ap (cond (nat_eq action q) true) (h.found q)
      ∙ sym (list_any-more (λ other. other == q) rows action);
}
