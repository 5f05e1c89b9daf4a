-- What was accepted last, once one more state is accepted.
use Rattle.std.proofs.Common.{◌≡◌, ◌-◌, ◌<◌, ◌≤◌, ℕ, zero, suc, Bool, true, false, List, [], ◌∷◌, length, Option}
use Rattle.std.proofs.Common.{Some, refl, arith}
use Rattle.std.proofs.Math.ListN.{set}
use Rattle.std.specs.Prelude.{◌==◌, if◌then◌else◌, slice_get, option_and_then}
use Rattle.std.proofs.lemmas.Bool.Decides.{nat_tests}
use mathlib.Core.Path.{fun_ext}
use Rattle.smi_grant.specs.declared.state.Shown.{Shown}
use Rattle.smi_view.specs.Accepting.{last_in}

get_set : (xs : List (Option Shown)) (i j : ℕ) (v : Option Shown) → i < length xs
    → slice_get (set xs i v) j ≡ (if j == i then Some v else slice_get xs j)
get_set [] i j v within = absurd (omega arith)
get_set (x ∷ xs) zero zero v within = refl
get_set (x ∷ xs) zero (suc j) v within = grind (arith, nat_tests)
get_set (x ∷ xs) (suc i) zero v within = grind (arith, nat_tests)
get_set (x ∷ xs) (suc i) (suc j) v within =
    let same : (suc j == suc i) ≡ (j == i) = grind (arith, nat_tests) in
    rw same (get_set xs i j v (omega arith))

last_at : (table : List (Option Shown)) (o x : ℕ) (s : Shown) → 1 ≤ o → o ≤ length table
    → last_in (set table (o - 1) (Some s)) x ≡ (if x == o then Some s else last_in table x)
last_at table o zero s least most =
    let other : (0 == o) ≡ false = grind (arith, nat_tests) in
    rw other refl
last_at table o (suc j) s least most =
    let positive : (suc j == 0) ≡ false = grind (arith, nat_tests) in
    let same : (suc j - 1 == o - 1) ≡ (suc j == o) = grind (arith, nat_tests) in
    rw (positive, get_set table (o - 1) (suc j - 1) (Some s) (omega (arith, least, most)), same) (by_place (suc j == o))
  where
    by_place : (b : Bool) → option_and_then (λ t. t) (if b then Some (Some s) else slice_get table (suc j - 1))
        ≡ (if b then Some s else option_and_then (λ t. t) (slice_get table (suc j - 1)))
    by_place true = refl
    by_place false = refl

pub last_set : (table : List (Option Shown)) (o : ℕ) (s : Shown) → 1 ≤ o → o ≤ length table
    → ◌≡◌ {A = ℕ → Option Shown} (λ x. last_in (set table (o - 1) (Some s)) x)
    (λ x. if x == o then Some s else last_in table x)
last_set table o s least most = fun_ext (λ x. last_at table o x s least most)
