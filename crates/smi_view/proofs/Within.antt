-- What is had at a number of a table is within it.
use Rattle.std.proofs.Common.{◌≡◌, ◌≤◌, ◌<◌, ◌-◌, ℕ, zero, suc, false, List, [], ◌∷◌, Option, None}
use Rattle.std.proofs.Common.{◌⊎◌, inl, inr, length, refl, arith}
use Rattle.std.specs.Prelude.{◌==◌, slice_get}
use Rattle.std.proofs.lemmas.Bool.Decides.{nat_tests}
use Rattle.smi_view.specs.Pictured.{at_number}

beyond : {A : Type 0} (xs : List A) (i : ℕ) → length xs ≤ i → slice_get xs i ≡ None
beyond [] i h = refl
beyond (x ∷ xs) zero h = absurd (omega (arith, h))
beyond (x ∷ xs) (suc i) h = beyond xs i (omega (arith, h))

at_beyond : {A : Type 0} (table : List (Option A)) (n : ℕ) → length table < suc n → at_number table (suc n) ≡ None
at_beyond table n h =
    let positive : (suc n == 0) ≡ false = grind (arith, nat_tests) in
    let place : suc n - 1 ≡ n = omega arith in
    rw (positive, place, beyond table n (omega (arith, h))) refl

pub is_within : {A : Type 0} (table : List (Option A)) (n : ℕ) → (at_number table n ≡ None → ⊥)
    → (1 ≤ n) × (n ≤ length table)
is_within table zero some = absurd (some refl)
is_within table (suc n) some = (omega arith, by (compared (length table) n))
  where
    compared : (k m : ℕ) → (m < k) ⊎ (k < suc m)
    compared k m = grind arith

    by : (n < length table) ⊎ (length table < suc n) → suc n ≤ length table
    by (inl h) = omega (arith, h)
    by (inr h) = absurd (some (at_beyond table n h))
