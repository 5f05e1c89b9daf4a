-- What a write at a number makes of a table.
use Rattle.std.proofs.Common.{◌≡◌, ℕ, ◌-◌, ◌<◌, ◌≤◌, ◌≢◌, Bool, true, false, List, length, get_or, get_or-set_same}
use Rattle.std.proofs.Common.{get_or-set_other, refl, sym, ap, Option, Some, None, arith}
use Rattle.std.proofs.Math.ListN.{set}
use Rattle.std.specs.Prelude.{◌==◌, if◌then◌else◌, slice_get}
use Rattle.std.specs.Option.{option_map_or}
use Rattle.std.proofs.lemmas.List.{get_or_read}
use Rattle.std.proofs.lemmas.Option.{slice_get_within}
use Rattle.std.proofs.lemmas.Bool.{eqb-true, false≢true}
use Rattle.std.proofs.lemmas.Bool.Decides.{nat_tests}
use mathlib.Core.Path.{fun_ext}
use Rattle.smi_tree.specs.Hierarchy.{entry}
use Rattle.smi_tree.specs.Lawful.{IsBetween}
use Rattle.smi_protocol.specs.Grants.{put}
use Rattle.smi_station_grants.specs.Entries.{entry_or}

pub entry_set : {X : Type 0} (xs : List X) (n m : ℕ) (v d : X) → 1 ≤ n → n ≤ length xs
    → entry_or (set xs (n - 1) v) m d ≡ (if m == n then v else entry_or xs m d)
entry_set xs n m v d least most = by_place (m == n) (m == 0) refl refl
  where
    by_place : (here zeroth : Bool) → (m == n) ≡ here → (m == 0) ≡ zeroth
        → (if zeroth then d else get_or (set xs (n - 1) v) (m - 1) d)
        ≡ (if here then v else (if zeroth then d else get_or xs (m - 1) d))
    by_place true true h z =
        let a : m ≡ n = eqb-true m n h in
        let b : m ≡ 0 = eqb-true m 0 z in
        absurd (omega (arith, a, b, least))
    by_place true false h z =
        let a : m ≡ n = eqb-true m n h in
        rw a (get_or-set_same xs (n - 1) v d (omega (arith, least, most)))
    by_place false true h z = refl
    by_place false false h z =
        let other : m - 1 ≢ n - 1 = grind (arith, nat_tests) in
        get_or-set_other xs (n - 1) (m - 1) v d other

-- a table with another value at one number
pub table_set : {X : Type 0} (xs : List X) (n : ℕ) (v d : X) → 1 ≤ n → n ≤ length xs
    → ◌≡◌ {A = ℕ → X} (λ m. entry_or (set xs (n - 1) v) m d) (put (λ m. entry_or xs m d) n v)
table_set xs n v d least most = fun_ext (λ m. entry_set xs n m v d least most)

-- the same value once more
pub put_same : {X : Type 0} (table : ℕ → X) (n : ℕ) → put table n (table n) ≡ table
put_same table n = fun_ext (λ m. by m (m == n) refl)
  where
    by : (m : ℕ) (here : Bool) → (m == n) ≡ here → (if here then table n else table m) ≡ table m
    by m true is = ap table (sym (eqb-true m n is))
    by m false is = refl

-- the last of two values
pub put_twice : {X : Type 0} (table : ℕ → X) (n : ℕ) (v w : X) → put (put table n v) n w ≡ put table n w
put_twice table n v w = fun_ext (λ m. by m (m == n))
  where
    by : (m : ℕ) (here : Bool) → (if here then w else (if here then v else table m)) ≡ (if here then w else table m)
    by m true = refl
    by m false = refl

-- what is at a number of a list has its place there
pub in_list : {X : Type 0} (test : X → Bool) (xs : List X) (n : ℕ) → (o : Option X) → entry xs n ≡ o
    → option_map_or test o false ≡ true → IsBetween 1 (length xs) n
in_list test xs n None is h = absurd (false≢true h)
in_list test xs n (Some x) is h = by_zero (n == 0) refl is
  where
    by_zero : (zeroth : Bool) → (n == 0) ≡ zeroth → (if zeroth then None else slice_get xs (n - 1)) ≡ Some x
        → IsBetween 1 (length xs) n
    by_zero true z e = absurd cc
    by_zero false z e =
        let inside : n - 1 < length xs = slice_get_within xs (n - 1) x e in
        let positive : 1 ≤ n = grind (arith, nat_tests) in
        record { least = positive; most = omega (arith, inside, positive) }

-- the place of a number
pub entry_read : {X : Type 0} (xs : List X) (n : ℕ) (x d : X) → 1 ≤ n → n ≤ length xs → x ≡ get_or xs (n - 1) x
    → x ≡ entry_or xs n d
entry_read xs n x d least most read =
    let positive : (n == 0) ≡ false = grind (arith, nat_tests) in
    rw positive (get_or_read xs (n - 1) x (omega (arith, least, most)) read d)
