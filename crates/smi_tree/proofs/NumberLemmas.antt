-- The numbers of names: the place of a name, and what one more changes.
use Rattle.std.proofs.Common.{◌≡◌, ℕ, ◌+◌, Bool, true, false, cond, List, [], ◌∷◌, ◌++◌, length, Option, Some, None}
use Rattle.std.proofs.Common.{option_map, refl, ap, ◌∙◌, sym, arith, IfSome}
use Rattle.std.specs.Prelude.{if◌then◌else◌, ◌||◌}
use Rattle.std.specs.Option.{option_or}
use Rattle.std.specs.List.{list_any, position, position_from}
use Rattle.std.specs.Str.{bytes_eq}
use Rattle.std.proofs.lemmas.Iterator.Adapters.{position_from-zero}
use Rattle.smi_tree.proofs.Lawfulness.{number_of-between}
use Rattle.smi_tree.specs.Lawful.{IsBetween}
use Rattle.smi_tree.specs.Name.{number_of}

-- the place of the last of some
pub position_from-more : {X : Type 0} (p : X → Bool) (first : ℕ) (xs : List X) (x : X) →
    position_from p first (xs ++ x ∷ []) ≡ option_or (position_from p first xs)
    (cond (p x) (Some (first + length xs)) None)
position_from-more p first [] x = ap (λ (n : ℕ). cond (p x) (Some n) None) (omega arith)
position_from-more p first (y ∷ ys) x = go (p y) (position_from-more p (first + 1) ys x)
  where
    go : (b : Bool) →
        position_from p (first + 1) (ys ++ x ∷ [])
        ≡ option_or (position_from p (first + 1) ys) (cond (p x) (Some ((first + 1) + length ys)) None) →
        cond b (Some first) (position_from p (first + 1) (ys ++ x ∷ []))
        ≡ option_or (cond b (Some first) (position_from p (first + 1) ys))
        (cond (p x) (Some (first + length (y ∷ ys))) None)
    go true later = refl
    go false later = later
        ∙ ap (λ (n : ℕ). option_or (position_from p (first + 1) ys) (cond (p x) (Some n) None)) (omega arith)

-- places counted from one more
position_from-later : {X : Type 0} (p : X → Bool) (first : ℕ) (xs : List X) →
    option_map (λ n. n + 1) (position_from p first xs) ≡ position_from p (first + 1) xs
position_from-later p first [] = refl
position_from-later p first (x ∷ xs) = go (p x) (position_from-later p (first + 1) xs)
  where
    go : (b : Bool) → option_map (λ n. n + 1) (position_from p (first + 1) xs) ≡ position_from p (first + 1 + 1) xs →
        option_map (λ n. n + 1) (cond b (Some first) (position_from p (first + 1) xs))
        ≡ cond b (Some (first + 1)) (position_from p (first + 1 + 1) xs)
    go true later = refl
    go false later = later

-- the number of a name is its place, from 1
pub number_of-place : (names : List (List ℕ)) (name : List ℕ) (place : Option ℕ)
    → place ≡ position (bytes_eq name) names →
    option_map (λ n. n + 1) place ≡ number_of names name
number_of-place names name place is =
    ap (option_map (λ n. n + 1)) (is ∙ position_from-zero (bytes_eq name) names)
    ∙ position_from-later (bytes_eq name) 0 names

-- what has no place is not among them
none-any : {X : Type 0} (p : X → Bool) (first : ℕ) (xs : List X) → position_from p first xs ≡ None
    → list_any p xs ≡ false
none-any p first [] none = refl
none-any p first (x ∷ xs) none = go (p x) (none-any p (first + 1) xs) none
  where
    go : (b : Bool) → (position_from p (first + 1) xs ≡ None → list_any p xs ≡ false) →
        cond b (Some first) (position_from p (first + 1) xs) ≡ None → (b || list_any p xs) ≡ false
    go true later some = cc
    go false later rest = later rest

-- a name without a number is a new one
pub absent-new : (names : List (List ℕ)) (name : List ℕ) → number_of names name ≡ None →
    (if list_any (bytes_eq name) names then names else names ++ name ∷ []) ≡ names ++ name ∷ []
absent-new names name absent = rw (none-any (bytes_eq name) 1 names absent) refl

pub number_of-within : (names : List (List ℕ)) (name : List ℕ) (found : Option ℕ) → found ≡ number_of names name
    → IfSome found (IsBetween 1 (length names))
number_of-within names name (Some n) is = number_of-between names name n (sym is)
number_of-within names name None is = tt
