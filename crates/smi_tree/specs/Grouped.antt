-- Rows by what they belong to.
use Rattle.std.specs.Prelude.{ℕ, ◌≡◌, ◌+◌, ◌==◌, ◌<◌, ◌++◌, Bool, false, List, [], ◌∷◌, length, Option}
use Rattle.std.specs.Prelude.{slice_index_or, if◌then◌else◌}
use Rattle.std.specs.Option.{option_map_or}
use Rattle.std.specs.Global.{Vec}
use Rattle.smi_tree.specs.Lookups.{numbers_from}

-- each owner, from 1, has the numbers of its rows
pub record IsGrouped {X : Type 0} (belongs : ℕ → X → Bool) (owners : ℕ) (rows : List X) (groups : List (Vec ℕ))
    : Type 0 where
  pub all : length groups ≡ owners
  pub each : (place : ℕ) (other : Vec ℕ) → place < owners
      → (slice_index_or groups place other).items ≡ numbers_from (belongs (place + 1)) 1 rows

-- whether an owner, if there is one, has this number
abbrev pub is_number_of : Option ℕ → ℕ → Bool
is_number_of found owner = option_map_or (λ other. other == owner) found false

-- this many groups, with no numbers
pub record IsEmpty (owners : ℕ) (groups : List (Vec ℕ)) : Type 0 where
  pub all : length groups ≡ owners
  pub each : (place : ℕ) (other : Vec ℕ) → place < owners → (slice_index_or groups place other).items ≡ []

-- an owner that has a group has one number more, and all other groups are unchanged
pub record IsPut (old : List (Vec ℕ)) (owner number : ℕ) (new : List (Vec ℕ)) : Type 0 where
  pub all : length new ≡ length old
  pub each :
      (place : ℕ) (other : Vec ℕ) → place < length old →
      (slice_index_or new place other).items ≡ (slice_index_or old place other).items
      ++ (if owner == place + 1 then number ∷ [] else [])
