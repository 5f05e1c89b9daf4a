-- What is in lists.
use Rattle.std.proofs.Common.{ℕ, zero, suc, ◌≡◌, ◌≤◌, ◌<◌, ◌+◌, Bool, true, false, List, [], ◌∷◌, ◌⊎◌, inl, inr, refl}
use Rattle.std.proofs.Common.{sym, ap, ◌∙◌, subst, arith}
use Rattle.std.specs.Prelude.{◌==◌, ◌||◌, ◌++◌, Option, Some, None, map, take, filter, slice_get, if◌then◌else◌}
use Rattle.std.specs.List.{cons_option, list_any, filter_map, flat_map, range_with_len}
use Rattle.std.proofs.lemmas.Bool.{eqb-true}
use Rattle.smi_tree.specs.Lookups.{numbers_from}
use Rattle.smi_grant.proofs.Holders.{either}
pub use Rattle.smi_protocol.specs.Sound.{In}

pub in_first : {X : Type 0} (y : X) (xs ys : List X) → In y xs → In y (xs ++ ys)
in_first y [] ys a = absurd a
in_first y (x ∷ xs) ys (inl is) = inl is
in_first y (x ∷ xs) ys (inr a) = inr (in_first y xs ys a)

pub in_second : {X : Type 0} (y : X) (xs ys : List X) → In y ys → In y (xs ++ ys)
in_second y [] ys a = a
in_second y (x ∷ xs) ys a = inr (in_second y xs ys a)

pub in_both : {X : Type 0} (y : X) (xs ys : List X) → In y (xs ++ ys) → In y xs ⊎ In y ys
in_both y [] ys a = inr a
in_both y (x ∷ xs) ys (inl is) = inl (inl is)
in_both y (x ∷ xs) ys (inr a) = elim (in_both y xs ys a) [ inl b ↦ inl (inr b) | inr b ↦ inr b ]

pub in_mapped : {X Y : Type 0} (f : X → Y) (x : X) (xs : List X) → In x xs → In (f x) (map f xs)
in_mapped f x [] a = absurd a
in_mapped f x (y ∷ xs) (inl is) = inl (ap f is)
in_mapped f x (y ∷ xs) (inr a) = inr (in_mapped f x xs a)

pub from_mapped : {X Y : Type 0} (f : X → Y) (y : Y) (xs : List X) → In y (map f xs) → (x : X) × In x xs × (y ≡ f x)
from_mapped f y [] a = absurd a
from_mapped f y (x ∷ xs) (inl is) = (x, inl refl, is)
from_mapped f y (x ∷ xs) (inr a) = let b = from_mapped f y xs a in (b.0, inr b.1, b.2)

pub in_chosen : {X Y : Type 0} (f : X → Option Y) (x : X) (y : Y) (xs : List X) → In x xs → f x ≡ Some y
    → In y (filter_map f xs)
in_chosen f x y [] a is = absurd a
in_chosen f x y (z ∷ xs) (inl same) is = rw (ap f (sym same) ∙ is) (inl refl)
in_chosen {X = X} {Y = Y} f x y (z ∷ xs) (inr a) is = behind (f z) (in_chosen f x y xs a is)
  where
    behind : (o : Option Y) → In y (filter_map f xs) → In y (cons_option o (filter_map f xs))
    behind None b = b
    behind (Some u) b = inr b

pub from_chosen : {X Y : Type 0} (f : X → Option Y) (y : Y) (xs : List X) → In y (filter_map f xs)
    → (x : X) × In x xs × (f x ≡ Some y)
from_chosen f y [] a = absurd a
from_chosen {X = X} {Y = Y} f y (z ∷ xs) a = by (f z) refl a (λ b. from_chosen f y xs b)
  where
    later : ((x : X) × In x xs × (f x ≡ Some y)) → (x : X) × In x (z ∷ xs) × (f x ≡ Some y)
    later b = (b.0, inr b.1, b.2)

    by : (o : Option Y) → f z ≡ o → In y (cons_option o (filter_map f xs))
        → (In y (filter_map f xs) → (x : X) × In x xs × (f x ≡ Some y)) → (x : X) × In x (z ∷ xs) × (f x ≡ Some y)
    by None is b rest = later (rest b)
    by (Some u) is (inl same) rest = (z, inl refl, is ∙ ap Some (sym same))
    by (Some u) is (inr b) rest = later (rest b)

-- the numbers of a range
pub in_range : (n low count : ℕ) → low ≤ n → n < low + count → In n (range_with_len low count)
in_range n low zero least most = absurd (omega (arith, least, most))
in_range n low (suc count) least most = elim (meets n low least) [
  | inl is ↦ inl is
  | inr above ↦ inr (in_range n (low + 1) count above (omega (arith, most)))
]
  where
    meets : (m k : ℕ) → k ≤ m → (m ≡ k) ⊎ (k + 1 ≤ m)
    meets m k l = grind arith

pub from_range : (n low count : ℕ) → In n (range_with_len low count) → (low ≤ n) × (n < low + count)
from_range n low zero a = absurd a
from_range n low (suc count) (inl is) = (omega (arith, is), omega (arith, is))
from_range n low (suc count) (inr a) = let b = from_range n (low + 1) count a in let least = b.0 in let most = b.1 in
    (omega (arith, least), omega (arith, most))

-- the numbers of rows that pass a test
pub in_numbers : {X : Type 0} (test : X → Bool) (rows : List X) (k i : ℕ) (row : X) → slice_get rows i ≡ Some row
    → test row ≡ true → In (i + k) (numbers_from test k rows)
in_numbers {X = X} test [] k i row is t = absurd (nothing i is)
  where
    nothing : (j : ℕ) → slice_get [] j ≡ Some row → ⊥
    nothing j at = cc
in_numbers test (other ∷ rows) k zero row is t =
    let same : other ≡ row = cc in
    rw (ap test same ∙ t) (inl (none k))
  where
    none : (m : ℕ) → 0 + m ≡ m
    none m = omega arith
in_numbers test (other ∷ rows) k (suc i) row is t =
    subst (λ z. In z (numbers_from test k (other ∷ rows))) (moved i k)
    (elim (either (test other)) [
      | inl b ↦ rw b (inr (in_numbers test rows (k + 1) i row is t))
      | inr b ↦ rw b (in_numbers test rows (k + 1) i row is t)
    ])
  where
    moved : (j m : ℕ) → j + (m + 1) ≡ suc j + m
    moved j m = omega arith

pub numbers_above : {X : Type 0} (test : X → Bool) (rows : List X) (k n : ℕ) → In n (numbers_from test k rows) → k ≤ n
numbers_above test [] k n = λ a. absurd a
numbers_above test (row ∷ rows) k n = by (test row) (λ b. numbers_above test rows (k + 1) n b)
  where
    by : (b : Bool) → (In n (numbers_from test (k + 1) rows) → k + 1 ≤ n)
        → In n (if b then k ∷ numbers_from test (k + 1) rows else numbers_from test (k + 1) rows) → k ≤ n
    by true rest (inl is) = omega (arith, is)
    by true rest (inr a) = let c = rest a in omega (arith, c)
    by false rest a = let c = rest a in omega (arith, c)

pub in_any : (x : ℕ) (xs : List ℕ) → list_any (λ other. other == x) xs ≡ true → In x xs
in_any x [] t = absurd cc
in_any x (y ∷ xs) t = elim (either (y == x)) [
  | inl is ↦ inl (sym (eqb-true y x is))
  | inr f ↦ inr (in_any x xs (sym (ap (λ b. b || list_any (λ other. other == x) xs) f) ∙ t))
]

-- no two of them are one
abbrev pub Apart : {X : Type 0} → (X → ℕ) → List X → Type 0
Apart f [] = Unit {0}
Apart {X = X} f (x ∷ xs) = ((y : X) → In y xs → f y ≡ f x → ⊥) × Apart f xs

abbrev pub same : ℕ → ℕ
same n = n

pub apart_range : (low count : ℕ) → Apart same (range_with_len low count)
apart_range low zero = tt
apart_range low (suc count) = (
  λ y a is. let b = (from_range y (low + 1) count a).0 in omega (arith, b, is),
  apart_range (low + 1) count,
)

pub apart_numbers : {X : Type 0} (test : X → Bool) (rows : List X) (k : ℕ) → Apart same (numbers_from test k rows)
apart_numbers test [] k = tt
apart_numbers test (row ∷ rows) k = by (test row) (apart_numbers test rows (k + 1))
  where
    by : (b : Bool) → Apart same (numbers_from test (k + 1) rows)
        → Apart same (if b then k ∷ numbers_from test (k + 1) rows else numbers_from test (k + 1) rows)
    by true rest = (λ y a is. let b = numbers_above test rows (k + 1) y a in omega (arith, b, is), rest)
    by false rest = rest

pub apart_added : (n : ℕ) (xs : List ℕ) → ((y : ℕ) → In y xs → y ≡ n → ⊥) → Apart same xs → Apart same (xs ++ n ∷ [])
apart_added n [] other a = (λ y b is. absurd b, tt)
apart_added n (x ∷ xs) other a = (
  λ y b is. elim (in_both y xs (n ∷ []) b) [
    | inl c ↦ a.0 y c is
    | inr c ↦ elim c [ inl e ↦ other x (inl refl) (sym is ∙ e) | inr e ↦ absurd e ]
  ],
  apart_added n xs (λ y b is. other y (inr b) is) a.1,
)

-- what is moved up stays apart
pub apart_moved : (k : ℕ) (xs : List ℕ) → Apart same xs → Apart same (map (λ n. k + n) xs)
apart_moved k [] a = tt
apart_moved k (x ∷ xs) a = (
  λ y b is. let c = from_mapped (λ n. k + n) y xs b in
      let i : k + c.0 ≡ k + x = sym c.2 ∙ is in a.0 c.0 c.1 (omega (arith, i)),
  apart_moved k xs a.1,
)

-- what is chosen by number stays apart
pub apart_chosen : {Y : Type 0} (f : ℕ → Option Y) (number : Y → ℕ) → ((n : ℕ) (y : Y) → f n ≡ Some y → number y ≡ n)
    → (xs : List ℕ) → Apart same xs → Apart number (filter_map f xs)
apart_chosen f number named [] a = tt
apart_chosen {Y = Y} f number named (x ∷ xs) a = by (f x) refl (apart_chosen f number named xs a.1)
  where
    by : (o : Option Y) → f x ≡ o → Apart number (filter_map f xs) → Apart number (cons_option o (filter_map f xs))
    by None is rest = rest
    by (Some y) is rest = (
      λ z b i. let c = from_chosen f z xs b in
          a.0 c.0 c.1 (sym (named c.0 z c.2) ∙ i ∙ named x y is),
      rest,
    )

-- What is chosen from lists of lists, or cut off, stood there.

pub from_flat : {X Y : Type 0} (f : X → List Y) (y : Y) (xs : List X) → In y (flat_map f xs)
    → (x : X) × In x xs × In y (f x)
from_flat f y [] a = absurd a
from_flat f y (x ∷ xs) a = elim (in_both y (f x) (flat_map f xs) a) [
  | inl here ↦ (x, inl refl, here)
  | inr there ↦ let b = from_flat f y xs there in (b.0, inr b.1, b.2)
]

pub from_taken : {X : Type 0} (y : X) (n : ℕ) (xs : List X) → In y (take n xs) → In y xs
from_taken y zero xs a = absurd a
from_taken y (suc n) [] a = absurd a
from_taken y (suc n) (x ∷ xs) (inl is) = inl is
from_taken y (suc n) (x ∷ xs) (inr a) = inr (from_taken y n xs a)

pub from_kept : {X : Type 0} (test : X → Bool) (y : X) (xs : List X) → In y (filter test xs) → In y xs
from_kept test y [] a = absurd a
from_kept {X = X} test y (x ∷ xs) a = by (test x) a (λ b. from_kept test y xs b)
  where
    by : (b : Bool) → In y (if b then x ∷ filter test xs else filter test xs) → (In y (filter test xs) → In y xs)
        → In y (x ∷ xs)
    by true (inl is) rest = inl is
    by true (inr b) rest = inr (rest b)
    by false b rest = inr (rest b)

-- what is in a list has a place in it
pub place_of : {X : Type 0} (y : X) (xs : List X) → In y xs → (i : ℕ) × (slice_get xs i ≡ Some y)
place_of y [] a = absurd a
place_of y (x ∷ xs) (inl is) = (zero, ap Some (sym is))
place_of y (x ∷ xs) (inr a) = let b = place_of y xs a in (suc b.0, b.1)

-- a number that passes a test has its row
pub from_numbers : {X : Type 0} (test : X → Bool) (rows : List X) (k n : ℕ) → In n (numbers_from test k rows)
    → (i : ℕ) × (row : X) × (slice_get rows i ≡ Some row) × (test row ≡ true) × (n ≡ i + k)
from_numbers test [] k n a = absurd a
from_numbers {X = X} test (row ∷ rows) k n a = by (test row) refl a (λ b. from_numbers test rows (k + 1) n b)
  where
    later : ((i : ℕ) × (other : X) × (slice_get rows i ≡ Some other) × (test other ≡ true) × (n ≡ i + (k + 1)))
        → (i : ℕ) × (other : X) × (slice_get (row ∷ rows) i ≡ Some other) × (test other ≡ true) × (n ≡ i + k)
    later b = let is = b.4 in (suc b.0, b.1, b.2, b.3, omega (arith, is))

    by : (b : Bool) → test row ≡ b
        → In n (if b then k ∷ numbers_from test (k + 1) rows else numbers_from test (k + 1) rows)
        → (In n (numbers_from test (k + 1) rows) → (i : ℕ) × (other : X) × (slice_get rows i ≡ Some other)
        × (test other ≡ true) × (n ≡ i + (k + 1)))
        → (i : ℕ) × (other : X) × (slice_get (row ∷ rows) i ≡ Some other) × (test other ≡ true) × (n ≡ i + k)
    by true t (inl is) rest = (zero, row, refl, t, omega (arith, is))
    by true t (inr b) rest = later (rest b)
    by false t b rest = later (rest b)
