-- What is in lists that are made of others, and how long these are.
use Rattle.std.proofs.Common.{ℕ, zero, suc, ◌≡◌, ◌<◌, ◌≤◌, ◌+◌, Bool, true, false, List, [], ◌∷◌, ◌⊎◌, inl, inr, refl}
use Rattle.std.proofs.Common.{sym, ap, ◌∙◌, subst, arith}
use Rattle.std.proofs.lemmas.List.Sums.{sum_by-cons}
use Rattle.std.specs.Prelude.{count_by, ◌*◌, ◌++◌, drop, filter, map, length, take, Option, Some, None, if◌then◌else◌}
use Rattle.std.specs.List.{cons_option, filter_map, flat_map, list_any, range_with_len}
use Rattle.smi_tree.specs.Lookups.{numbers_from}
use Rattle.smi_protocol.proofs.Lists.{In, in_first, in_second}

pub in_flat : {X Y : Type 0} (f : X → List Y) (x : X) (y : Y) (xs : List X) → In x xs → In y (f x)
    → In y (flat_map f xs)
in_flat f x y [] a b = absurd a
in_flat f x y (z ∷ xs) (inl same) b = in_first y (f z) (flat_map f xs) (subst (λ u. In y (f u)) same b)
in_flat f x y (z ∷ xs) (inr a) b = in_second y (f z) (flat_map f xs) (in_flat f x y xs a b)

pub in_kept : {X : Type 0} (test : X → Bool) (y : X) (xs : List X) → In y xs → test y ≡ true → In y (filter test xs)
in_kept test y [] a t = absurd a
in_kept test y (x ∷ xs) (inl same) t = rw (ap test (sym same) ∙ t) (inl same)
in_kept {X = X} test y (x ∷ xs) (inr a) t = by (test x) (in_kept test y xs a t)
  where
    by : (b : Bool) → In y (filter test xs) → In y (if b then x ∷ filter test xs else filter test xs)
    by true i = inr i
    by false i = i

-- fewer pass a harder test
pub fewer_kept : {X : Type 0} (hard easy : X → Bool) (xs : List X) → ((x : X) → In x xs → hard x ≡ true
    → easy x ≡ true)
    → length (filter hard xs) ≤ length (filter easy xs)
fewer_kept hard easy [] harder = omega arith
fewer_kept {X = X} hard easy (x ∷ xs) harder =
    by (hard x) (easy x) (harder x (inl refl)) (fewer_kept hard easy xs (λ y i. harder y (inr i)))
  where
    by : (a b : Bool) → (a ≡ true → b ≡ true) → length (filter hard xs) ≤ length (filter easy xs)
        → length (if a then x ∷ filter hard xs else filter hard xs)
        ≤ length (if b then x ∷ filter easy xs else filter easy xs)
    by true true imp rest = omega (arith, rest)
    by true false imp rest = absurd (let wrong : false ≡ true = imp refl in cc)
    by false true imp rest = omega (arith, rest)
    by false false imp rest = rest

pub one_fewer : {X : Type 0} (hard easy : X → Bool) (z : X) (xs : List X)
    → ((x : X) → In x xs → hard x ≡ true → easy x ≡ true) → In z xs → hard z ≡ false → easy z ≡ true
    → length (filter hard xs) < length (filter easy xs)
one_fewer hard easy z [] harder a f t = absurd a
one_fewer {X = X} hard easy z (x ∷ xs) harder (inl same) f t =
    let rest = fewer_kept hard easy xs (λ y i. harder y (inr i)) in
    rw (ap hard (sym same) ∙ f, ap easy (sym same) ∙ t) (omega (arith, rest))
one_fewer {X = X} hard easy z (x ∷ xs) harder (inr a) f t =
    by (hard x) (easy x) (harder x (inl refl)) (one_fewer hard easy z xs (λ y i. harder y (inr i)) a f t)
  where
    by : (a b : Bool) → (a ≡ true → b ≡ true) → length (filter hard xs) < length (filter easy xs)
        → length (if a then x ∷ filter hard xs else filter hard xs)
        < length (if b then x ∷ filter easy xs else filter easy xs)
    by true true imp rest = omega (arith, rest)
    by true false imp rest = absurd (let wrong : false ≡ true = imp refl in cc)
    by false true imp rest = omega (arith, rest)
    by false false imp rest = rest

-- Lengths.

-- what is kept of a list is no longer than the list
pub kept_most : {X : Type 0} (test : X → Bool) (xs : List X) → length (filter test xs) ≤ length xs
kept_most test [] = omega arith
kept_most test (x ∷ xs) = by (test x) (kept_most test xs)
  where
    by : (b : Bool) → length (filter test xs) ≤ length xs
        → length (if b then x ∷ filter test xs else filter test xs) ≤ length (x ∷ xs)
    by true l = omega (arith, l)
    by false l = omega (arith, l)

pub some_there : {X : Type 0} (x : X) (xs : List X) → In x xs → 1 ≤ length xs
some_there x [] i = absurd i
some_there x (y ∷ xs) i = omega arith

pub both_lengths : {X : Type 0} (xs ys : List X) → length (xs ++ ys) ≡ length xs + length ys
both_lengths [] ys = omega arith
both_lengths (x ∷ xs) ys = let l = both_lengths xs ys in omega (arith, l)

pub flat_most : {X Y : Type 0} (f : X → List Y) (most : ℕ) → ((x : X) → length (f x) ≤ most) → (xs : List X)
    → length (flat_map f xs) ≤ length xs * most
flat_most f most each [] = omega arith
flat_most f most each (x ∷ xs) =
    let l = flat_most f most each xs in
    let both = both_lengths (f x) (flat_map f xs) in
    let here = each x in
    grind (arith, l, both, here)

pub range_length : (low count : ℕ) → length (range_with_len low count) ≡ count
range_length low zero = refl
range_length low (suc count) = let l = range_length (low + 1) count in omega (arith, l)

pub chosen_most : {X Y : Type 0} (f : X → Option Y) (xs : List X) → length (filter_map f xs) ≤ length xs
chosen_most f [] = omega arith
chosen_most {Y = Y} f (x ∷ xs) = by (f x) (chosen_most f xs)
  where
    by : (o : Option Y) → length (filter_map f xs) ≤ length xs
        → length (cons_option o (filter_map f xs)) ≤ length (x ∷ xs)
    by None l = omega (arith, l)
    by (Some y) l = omega (arith, l)

pub mapped_most : {X Y : Type 0} (f : X → Y) (xs : List X) → length (map f xs) ≡ length xs
mapped_most f [] = refl
mapped_most f (x ∷ xs) = let l = mapped_most f xs in omega (arith, l)

pub one_more : {X : Type 0} (test : X → Bool) (x : X) (xs : List X)
    → count_by test (x ∷ xs) ≡ (if test x then 1 else 0) + count_by test xs
one_more test x xs = sum_by-cons (λ y. if test y then 1 else 0) x xs

pub numbers_counted : {X : Type 0} (test : X → Bool) (rows : List X) (k : ℕ)
    → length (numbers_from test k rows) ≡ count_by test rows
numbers_counted test [] k = refl
numbers_counted test (row ∷ rows) k =
    by (test row) (numbers_counted test rows (k + 1)) ∙ sym (one_more test row rows)
  where
    by : (b : Bool) → length (numbers_from test (k + 1) rows) ≡ count_by test rows
        → length (if b then k ∷ numbers_from test (k + 1) rows else numbers_from test (k + 1) rows)
        ≡ (if b then 1 else 0) + count_by test rows
    by true l = omega (arith, l)
    by false l = omega (arith, l)

-- what passes a harder test is kept by both
pub kept_twice : {X : Type 0} (hard easy : X → Bool) (xs : List X)
    → ((x : X) → In x xs → hard x ≡ true → easy x ≡ true)
    → length (filter hard xs) ≤ length (filter hard (filter easy xs))
kept_twice hard easy [] harder = omega arith
kept_twice {X = X} hard easy (x ∷ xs) harder =
    by (hard x) (easy x) refl (harder x (inl refl)) (kept_twice hard easy xs (λ y i. harder y (inr i)))
  where
    by : (a b : Bool) → hard x ≡ a → (hard x ≡ true → b ≡ true)
        → length (filter hard xs) ≤ length (filter hard (filter easy xs))
        → length (if a then x ∷ filter hard xs else filter hard xs)
        ≤ length (filter hard (if b then x ∷ filter easy xs else filter easy xs))
    by true true is imp rest = rw is (omega (arith, rest))
    by true false is imp rest = absurd (let wrong : false ≡ true = imp is in cc)
    by false true is imp rest = rw is rest
    by false false is imp rest = rest

-- what the first do not pass is kept of the others alone
pub kept_behind : {X : Type 0} (test : X → Bool) (k : ℕ) (xs : List X)
    → ((x : X) → In x (take k xs) → test x ≡ false) → k ≤ length xs → length (filter test xs) + k ≤ length xs
kept_behind test zero xs none most = let l = kept_most test xs in omega (arith, l)
kept_behind test (suc k) [] none most = absurd (omega (arith, most))
kept_behind test (suc k) (x ∷ xs) none most =
    rw (none x (inl refl))
    (let l = kept_behind test k xs (λ y i. none y (inr i)) (omega (arith, most)) in omega (arith, l))

-- what is in a list is among the first or among the others
pub in_parts : {X : Type 0} (y : X) (k : ℕ) (xs : List X) → In y xs → In y (take k xs) ⊎ In y (drop k xs)
in_parts y zero xs i = inr i
in_parts y (suc k) [] i = absurd i
in_parts y (suc k) (x ∷ xs) (inl same) = inl (inl same)
in_parts y (suc k) (x ∷ xs) (inr i) = elim (in_parts y k xs i) [ inl a ↦ inl (inr a) | inr b ↦ inr b ]

pub others_there : {X : Type 0} (y : X) (k : ℕ) (xs : List X) → In y (drop k xs) → k < length xs
others_there y zero xs i = some_there y xs i
others_there y (suc k) [] i = absurd i
others_there y (suc k) (x ∷ xs) i = let l = others_there y k xs i in omega (arith, l)

-- Tests.

pub none_any : {X : Type 0} (test : X → Bool) (xs : List X) → ((x : X) → In x xs → test x ≡ false)
    → list_any test xs ≡ false
none_any test [] each = refl
none_any test (x ∷ xs) each = rw (each x (inl refl)) (none_any test xs (λ y i. each y (inr i)))
