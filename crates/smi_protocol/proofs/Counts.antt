-- How many numbers pass a test, where another test differs at one of them.
use Rattle.std.proofs.Common.{ℕ, zero, suc, ◌≡◌, ◌≤◌, ◌<◌, ◌+◌, Bool, true, false, List, [], ◌∷◌, inl, inr, refl, sym}
use Rattle.std.proofs.Common.{◌∙◌, arith}
use Rattle.std.specs.Prelude.{count_by, Option, Some, None, if◌then◌else◌}
use Rattle.std.specs.List.{cons_option, filter_map, range_with_len}
use Rattle.std.proofs.lemmas.List.Recursion.{is_count_by}
use Rattle.smi_protocol.proofs.Tables.{apart}

-- the same count, from the first number on
passing : {X : Type 0} → (X → Bool) → List X → ℕ
passing p [] = 0
passing p (x ∷ xs) = if p x then 1 + passing p xs else passing p xs

counted : {X : Type 0} (p : X → Bool) (xs : List X) → passing p xs ≡ count_by p xs
unfolding passing
counted p xs = is_count_by (passing p) p refl (λ x xs. refl) xs

harder_passing : (f k : ℕ → Bool) (xs : List ℕ) → ((x : ℕ) → k x ≡ true → f x ≡ true) → passing k xs ≤ passing f xs
unfolding passing
harder_passing f k [] harder = omega arith
harder_passing f k (x ∷ xs) harder = by (k x) (f x) (harder x) (harder_passing f k xs harder)
  where
    by : (a b : Bool) → (a ≡ true → b ≡ true) → passing k xs ≤ passing f xs
        → (if a then 1 + passing k xs else passing k xs) ≤ (if b then 1 + passing f xs else passing f xs)
    by true true i rest = omega (arith, rest)
    by true false i rest = absurd (let wrong : false ≡ true = i refl in cc)
    by false true i rest = omega (arith, rest)
    by false false i rest = rest

-- fewer pass a harder test
pub count_harder : (f k : ℕ → Bool) (xs : List ℕ) → ((x : ℕ) → k x ≡ true → f x ≡ true) → count_by k xs ≤ count_by f xs
count_harder f k xs harder = omega (arith, harder_passing f k xs harder, counted f xs, counted k xs)

-- as many pass after the one number
passing_after : (f k : ℕ → Bool) (d : ℕ) → ((x : ℕ) → (x ≡ d → ⊥) → k x ≡ f x) → (low n : ℕ) → d < low
    → passing k (range_with_len low n) ≡ passing f (range_with_len low n)
unfolding passing
passing_after f k d same low zero less = refl
passing_after f k d same low (suc n) less =
    by (k low) (f low) (same low (λ is. other is less)) (passing_after f k d same (low + 1) n (omega (arith, less)))
  where
    other : low ≡ d → d < low → ⊥
    other is less = omega (arith, is, less)

    by : (a b : Bool) → a ≡ b → passing k (range_with_len (low + 1) n) ≡ passing f (range_with_len (low + 1) n)
        → (if a then 1 + passing k (range_with_len (low + 1) n) else passing k (range_with_len (low + 1) n))
        ≡ (if b then 1 + passing f (range_with_len (low + 1) n) else passing f (range_with_len (low + 1) n))
    by true true i rest = omega (arith, rest)
    by true false i rest = absurd cc
    by false true i rest = absurd cc
    by false false i rest = rest

one_more_passing : (f k : ℕ → Bool) (d : ℕ) → ((x : ℕ) → (x ≡ d → ⊥) → k x ≡ f x) → (low n : ℕ)
    → passing k (range_with_len low n) ≤ passing f (range_with_len low n) + 1
unfolding passing
one_more_passing f k d same low zero = omega arith
one_more_passing f k d same low (suc n) = elim (apart low d) [
  | inl is ↦ here (k low) (f low) (passing_after f k d same (low + 1) n (omega (arith, is)))
  | inr o ↦ there (k low) (f low) (same low o) (one_more_passing f k d same (low + 1) n)
]
  where
    here : (a b : Bool) → passing k (range_with_len (low + 1) n) ≡ passing f (range_with_len (low + 1) n)
        → (if a then 1 + passing k (range_with_len (low + 1) n) else passing k (range_with_len (low + 1) n))
        ≤ (if b then 1 + passing f (range_with_len (low + 1) n) else passing f (range_with_len (low + 1) n)) + 1
    here true true rest = omega (arith, rest)
    here true false rest = omega (arith, rest)
    here false true rest = omega (arith, rest)
    here false false rest = omega (arith, rest)

    there : (a b : Bool) → a ≡ b → passing k (range_with_len (low + 1) n) ≤ passing f (range_with_len (low + 1) n) + 1
        → (if a then 1 + passing k (range_with_len (low + 1) n) else passing k (range_with_len (low + 1) n))
        ≤ (if b then 1 + passing f (range_with_len (low + 1) n) else passing f (range_with_len (low + 1) n)) + 1
    there true true i rest = omega (arith, rest)
    there true false i rest = absurd cc
    there false true i rest = absurd cc
    there false false i rest = rest

-- one more passes at most
pub count_one_more : (f k : ℕ → Bool) (d : ℕ) → ((x : ℕ) → (x ≡ d → ⊥) → k x ≡ f x) → (low n : ℕ)
    → count_by k (range_with_len low n) ≤ count_by f (range_with_len low n) + 1
count_one_more f k d same low n = omega (
  arith,
  one_more_passing f k d same low n,
  counted f (range_with_len low n),
  counted k (range_with_len low n),
)

none_passing : (f : ℕ → Bool) (xs : List ℕ) → ((x : ℕ) → f x ≡ false) → passing f xs ≡ 0
unfolding passing
none_passing f [] none = refl
none_passing f (x ∷ xs) none = by (f x) (none x) (none_passing f xs none)
  where
    by : (b : Bool) → b ≡ false → passing f xs ≡ 0 → (if b then 1 + passing f xs else passing f xs) ≡ 0
    by true i rest = absurd cc
    by false i rest = rest

-- nothing passes what no number passes
pub count_none : (f : ℕ → Bool) (xs : List ℕ) → ((x : ℕ) → f x ≡ false) → count_by f xs ≡ 0
count_none f xs none = sym (counted f xs) ∙ none_passing f xs none

-- of what is chosen by number no more pass than of the numbers
chosen_passing : {Y : Type 0} (f : ℕ → Option Y) (k : Y → Bool) (p : ℕ → Bool) (xs : List ℕ)
    → ((x : ℕ) (y : Y) → f x ≡ Some y → k y ≡ true → p x ≡ true) → passing k (filter_map f xs) ≤ passing p xs
unfolding passing
chosen_passing f k p [] keeps = omega arith
chosen_passing {Y = Y} f k p (x ∷ xs) keeps = by (f x) refl (chosen_passing f k p xs keeps)
  where
    more : (b : Bool) (m n : ℕ) → m ≤ n → m ≤ (if b then 1 + n else n)
    more true m n less = omega (arith, less)
    more false m n less = less

    both : (a b : Bool) (m n : ℕ) → (a ≡ true → b ≡ true) → m ≤ n → (if a then 1 + m else m) ≤ (if b then 1 + n else n)
    both true true m n i less = omega (arith, less)
    both true false m n i less = absurd (let wrong : false ≡ true = i refl in cc)
    both false true m n i less = omega (arith, less)
    both false false m n i less = less

    by : (o : Option Y) → f x ≡ o → passing k (filter_map f xs) ≤ passing p xs
        → passing k (cons_option o (filter_map f xs)) ≤ (if p x then 1 + passing p xs else passing p xs)
    by None is rest = more (p x) _ _ rest
    by (Some y) is rest = both (k y) (p x) _ _ (keeps x y is) rest

pub count_chosen : {Y : Type 0} (f : ℕ → Option Y) (k : Y → Bool) (p : ℕ → Bool) (xs : List ℕ)
    → ((x : ℕ) (y : Y) → f x ≡ Some y → k y ≡ true → p x ≡ true) → count_by k (filter_map f xs) ≤ count_by p xs
count_chosen f k p xs keeps = omega (arith, chosen_passing f k p xs keeps, counted k (filter_map f xs), counted p xs)
