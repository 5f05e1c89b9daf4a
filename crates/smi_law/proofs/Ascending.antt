-- Lists in which each thing precedes all that follow it.
use Rattle.std.proofs.Common.{ℕ, zero, suc, ◌≡◌, ◌<◌, ◌+◌, Bool, true, false, List, [], ◌∷◌, inl, inr, refl, sym}
use Rattle.std.proofs.Common.{subst}
use Rattle.std.proofs.Common.{arith}
use Rattle.std.specs.Prelude.{◌++◌, map, Option, Some, None, if◌then◌else◌}
use Rattle.std.specs.List.{flat_map, filter_map, range_with_len}
use Rattle.smi_tree.specs.Lookups.{numbers_from}
use Rattle.smi_protocol.proofs.Lists.{In, in_both, from_mapped, from_chosen, from_flat}
use Rattle.smi_protocol.proofs.Lists.{from_range}
use Rattle.smi_protocol.proofs.Lists.{numbers_above}

abbrev pub Ascends : {X : Type 0} → (X → X → Type 0) → List X → Type 0
Ascends R [] = Unit {0}
Ascends {X = X} R (x ∷ xs) = ((y : X) → In y xs → R x y) × Ascends R xs

pub ascends_both : {X : Type 0} (R : X → X → Type 0) (xs ys : List X) → Ascends R xs → Ascends R ys
    → ((x y : X) → In x xs → In y ys → R x y) → Ascends R (xs ++ ys)
ascends_both R [] ys a b across = b
ascends_both R (x ∷ xs) ys a b across = (
  λ y i. elim (in_both y xs ys i) [ inl j ↦ a.0 y j | inr j ↦ across x y (inl refl) j ],
  ascends_both R xs ys a.1 b (λ u y i j. across u y (inr i) j),
)

pub ascends_flat : {X Y : Type 0} (S : X → X → Type 0) (R : Y → Y → Type 0) (f : X → List Y) (xs : List X)
    → Ascends S xs → ((x : X) → In x xs → Ascends R (f x))
    → ((x y : X) (u v : Y) → S x y → In u (f x) → In v (f y) → R u v) → Ascends R (flat_map f xs)
ascends_flat S R f [] a each across = tt
ascends_flat S R f (x ∷ xs) a each across =
    ascends_both R (f x) (flat_map f xs) (each x (inl refl))
    (ascends_flat S R f xs a.1 (λ y i. each y (inr i)) across)
    (λ u v i j. let b = from_flat f v xs j in across x b.0 u v (a.0 b.0 b.1) i b.2)

pub ascends_mapped : {X Y : Type 0} (S : X → X → Type 0) (R : Y → Y → Type 0) (f : X → Y) (xs : List X)
    → Ascends S xs → ((x y : X) → S x y → R (f x) (f y)) → Ascends R (map f xs)
ascends_mapped S R f [] a keeps = tt
ascends_mapped S R f (x ∷ xs) a keeps = (
  λ v j. let b = from_mapped f v xs j in subst (R (f x)) (sym b.2) (keeps x b.0 (a.0 b.0 b.1)),
  ascends_mapped S R f xs a.1 keeps,
)

pub ascends_chosen : {X Y : Type 0} (S : X → X → Type 0) (R : Y → Y → Type 0) (f : X → Option Y) (xs : List X)
    → Ascends S xs → ((x y : X) (u v : Y) → S x y → f x ≡ Some u → f y ≡ Some v → R u v)
    → Ascends R (filter_map f xs)
ascends_chosen S R f [] a keeps = tt
ascends_chosen {X = X} {Y = Y} S R f (x ∷ xs) a keeps = by (f x) refl (ascends_chosen S R f xs a.1 keeps)
  where
    by : (o : Option Y) → f x ≡ o → Ascends R (filter_map f xs) → Ascends R (filter_map f (x ∷ xs))
    by None is rest = rw is rest
    by (Some u) is rest =
        rw is (λ v j. let b = from_chosen f v xs j in keeps x b.0 u v (a.0 b.0 b.1) is b.2, rest)

abbrev pub Less : ℕ → ℕ → Type 0
Less m n = m < n

pub ascends_range : (low count : ℕ) → Ascends Less (range_with_len low count)
ascends_range low zero = tt
ascends_range low (suc count) = (
  λ y i. let b = from_range y (low + 1) count i in let least = b.0 in omega (arith, least),
  ascends_range (low + 1) count,
)

pub ascends_numbers : {X : Type 0} (test : X → Bool) (rows : List X) (k : ℕ) → Ascends Less (numbers_from test k rows)
ascends_numbers test [] k = tt
ascends_numbers test (row ∷ rows) k = by (test row) (ascends_numbers test rows (k + 1))
  where
    by : (b : Bool) → Ascends Less (numbers_from test (k + 1) rows)
        → Ascends Less (if b then k ∷ numbers_from test (k + 1) rows else numbers_from test (k + 1) rows)
    by true rest = (λ y i. let least = numbers_above test rows (k + 1) y i in omega (arith, least), rest)
    by false rest = rest
