-- Rows put into groups one after the other.
use Rattle.std.proofs.Common.{◌≡◌, ℕ, ◌+◌, ◌<◌, ◌++◌, List, length, drop, Bool}
use Rattle.std.specs.Prelude.{slice_index_or}
use Rattle.std.specs.Global.{Vec}
use Rattle.smi_tree.specs.Lookups.{numbers_from}

-- each group has the numbers of the rows so far: with those of the rows that are left, they are those of all
pub record SoFar {X : Type 0} (belongs : ℕ → X → Bool) (owners : ℕ) (rows : List X) (so_far : ℕ)
    (groups : List (Vec ℕ)) : Type 0 where
  pub all : length groups ≡ owners
  pub each :
      (place : ℕ) (other : Vec ℕ) → place < owners →
      (slice_index_or groups place other).items ++ numbers_from (belongs (place + 1)) (so_far + 1) (drop so_far rows)
      ≡ numbers_from (belongs (place + 1)) 1 rows
