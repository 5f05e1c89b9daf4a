-- Lists that are gone through one by one.
use Rattle.std.proofs.Common.{ℕ, zero, suc, ◌≡◌, ◌≤◌, ◌<◌, ◌+◌, ◌-◌, Bool, true, false, List, [], ◌∷◌, ◌++◌}
use Rattle.std.proofs.Common.{length, map, take, drop, append-nil, get_or, drop_of_length-le}
use Rattle.std.proofs.Common.{refl, sym, ap, ◌∙◌, subst, arith}
use Rattle.std.specs.Prelude.{◌==◌, if◌then◌else◌}
use Rattle.std.proofs.Math.ListN.{set}
use Rattle.std.proofs.lemmas.List.{take_all, replicate-append-replicate}
use Rattle.std.specs.Prelude.{replicate}
use Rattle.std.proofs.Math.ListN.{get_or-map}
use Rattle.smi_station_grants.specs.Entries.{entry_or}

-- a list whose first elements have changed, up to a place
pub so_far : {X : Type 0} → (X → X) → List X → ℕ → List X
so_far f [] i = []
so_far f (x ∷ xs) zero = x ∷ xs
so_far f (x ∷ xs) (suc i) = f x ∷ so_far f xs i

pub none_yet : {X : Type 0} (f : X → X) (xs : List X) → xs ≡ so_far f xs 0
unfolding so_far
none_yet f [] = refl
none_yet f (x ∷ xs) = refl

pub all_now : {X : Type 0} (f : X → X) (xs : List X) (i : ℕ) → length xs ≤ i → so_far f xs i ≡ map f xs
unfolding so_far
all_now f [] i past = refl
all_now f (x ∷ xs) zero past = absurd (omega (arith, past))
all_now f (x ∷ xs) (suc i) past = ap (λ ys. f x ∷ ys) (all_now f xs i (omega (arith, past)))

-- the next one changes
next : {X : Type 0} (f : X → X) (xs : List X) (i : ℕ) (v d : X) → i < length xs → f (get_or (so_far f xs i) i d) ≡ v
    → set (so_far f xs i) i v ≡ so_far f xs (suc i)
unfolding so_far
next f [] i v d within is = absurd (omega (arith, within))
next f (x ∷ xs) zero v d within is = ap (λ y. y ∷ xs) (sym is) ∙ ap (λ ys. f x ∷ ys) (none_yet f xs)
next f (x ∷ xs) (suc i) v d within is = ap (λ ys. f x ∷ ys) (next f xs i v d (omega (arith, within)) is)

pub changed_next : {X : Type 0} (f : X → X) (xs : List X) (i : ℕ) (v d : X) → i < length xs
    → f (get_or (so_far f xs i) i d) ≡ v → set (so_far f xs i) i v ≡ so_far f xs (i + 1)
changed_next f xs i v d within is = next f xs i v d within is ∙ ap (so_far f xs) (later i)
  where
    later : (i : ℕ) → suc i ≡ i + 1
    later i = omega arith

-- or stays
stays : {X : Type 0} (f : X → X) (xs : List X) (i : ℕ) (d : X) → i < length xs
    → f (get_or (so_far f xs i) i d) ≡ get_or (so_far f xs i) i d → so_far f xs i ≡ so_far f xs (suc i)
unfolding so_far
stays f [] i d within is = absurd (omega (arith, within))
stays f (x ∷ xs) zero d within is = ap (λ y. y ∷ xs) (sym is) ∙ ap (λ ys. f x ∷ ys) (none_yet f xs)
stays f (x ∷ xs) (suc i) d within is = ap (λ ys. f x ∷ ys) (stays f xs i d (omega (arith, within)) is)

pub unchanged_next : {X : Type 0} (f : X → X) (xs : List X) (i : ℕ) (d : X) → i < length xs
    → f (get_or (so_far f xs i) i d) ≡ get_or (so_far f xs i) i d → so_far f xs i ≡ so_far f xs (i + 1)
unchanged_next f xs i d within is = stays f xs i d within is ∙ ap (so_far f xs) (later i)
  where
    later : (i : ℕ) → suc i ≡ i + 1
    later i = omega arith

-- a table of which each entry has changed
pub entry_map : {X : Type 0} (f : X → X) (xs : List X) (n : ℕ) (d : X) → f d ≡ d
    → entry_or (map f xs) n d ≡ f (entry_or xs n d)
entry_map {X = X} f xs n d same = by (n == 0)
  where
    read : (xs : List X) (i : ℕ) → get_or (map f xs) i d ≡ f (get_or xs i d)
    read xs i = subst (λ e. get_or (map f xs) i e ≡ f (get_or xs i d)) same (get_or-map f xs i d)

    by : (b : Bool) → (if b then d else get_or (map f xs) (n - 1) d)
        ≡ f (if b then d else get_or xs (n - 1) d)
    by true = sym same
    by false = read xs (n - 1)

pub in_place_of : {X : Type 0} (xs ys : List X) (n : ℕ) → length ys ≡ length xs → length xs ≡ n
    → take n (ys ++ drop (length ys) xs) ≡ ys
in_place_of xs ys n same long =
    ap (λ zs. take n (ys ++ zs)) (drop_of_length-le xs (omega (arith, same)))
    ∙ ap (take n) (append-nil ys)
    ∙ take_all n ys (omega (arith, same, long))

-- tables in which nothing stands
pub entry_replicate : {X : Type 0} (d : X) (n m : ℕ) → entry_or (replicate n d) m d ≡ d
entry_replicate {X = X} d n m = by (m == 0)
  where
    read : (n i : ℕ) → get_or (replicate n d) i d ≡ d
    read zero i = refl
    read (suc n) zero = refl
    read (suc n) (suc i) = read n i

    by : (b : Bool) → (if b then d else get_or (replicate n d) (m - 1) d) ≡ d
    by true = refl
    by false = read n (m - 1)

pub one_more_nothing : {X : Type 0} (n : ℕ) (x : X) → replicate n x ++ x ∷ [] ≡ replicate (n + 1) x
one_more_nothing n x = replicate-append-replicate n 1 x
