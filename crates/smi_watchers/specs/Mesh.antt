-- Cells that are in two lists at once.
use Rattle.std.specs.Prelude.{◌≡◌, ℕ, ◌<◌, if◌then◌else◌, nat_eq, ◌++◌, ◌⊎◌, List, [], ◌∷◌, length, Some, None}
use Rattle.smi_watchers.specs.declared.cell.Cell.{Cell}
use Rattle.smi_watchers.specs.declared.cell.Spot.{Spot}
use Rattle.smi_watchers.specs.declared.lists.Axis.{Axis}
use Rattle.smi_watchers.specs.declared.lists.Axis.TheVariants.{Object, Station}
use Rattle.smi_watchers.specs.Held.{is_same, found}
use Rattle.smi_watchers.specs.Ring.{Path, Apart}
use Rattle.smi_watchers.specs.Net.{Net, heads, next, prev}

-- which list of an axis a cell belongs to, counted from 0
abbrev pub list_of : Axis → Cell → ℕ
list_of Object c = c.object
list_of Station c = c.station

abbrev pub In : Spot → List Spot → Type 0
In p [] = ⊥
In p (q ∷ qs) = (p ≡ q) ⊎ In p qs

-- the places but one
abbrev pub dropped : Spot → List Spot → List Spot
dropped p [] = []
dropped p (q ∷ qs) = if is_same p.at q.at then dropped p qs else q ∷ dropped p qs

-- a cell lies at p, and belongs to the list
abbrev pub Belongs : Axis → ℕ → Spot → Net → Type 0
Belongs axis i p n = (c : Cell) × (found p.at n.held ≡ Some c) × (list_of axis c ≡ i)

-- the lists of an axis are qs
pub record IsAxis (axis : Axis) (qs : ℕ → List Spot) (n : Net) : Type 0 where
  pub path : (i : ℕ) → i < length (heads axis n) → Path (next axis i n) (prev axis i n) None (qs i)
  pub apart : (i : ℕ) → Apart None (qs i)
  pub belongs : (i : ℕ) (p : Spot) → In p (qs i) → Belongs axis i p n

-- each cell is in its list
abbrev pub AllIn : Axis → (ℕ → List Spot) → Net → Type 0
AllIn axis qs n = (p : Spot) (c : Cell) → found p.at n.held ≡ Some c
    → (list_of axis c < length (heads axis n)) × In p (qs (list_of axis c))

pub record IsMesh (rows columns : ℕ → List Spot) (n : Net) : Type 0 where
  pub objects : IsAxis Object rows n
  pub stations : IsAxis Station columns n
  pub in_row : AllIn Object rows n
  pub in_column : AllIn Station columns n

-- the cells are in some lists so
abbrev pub IsWhole : Net → Type 0
IsWhole n = (rows : ℕ → List Spot) × (columns : ℕ → List Spot) × IsMesh rows columns n

-- the lists with one more place at the end of the i-th
abbrev pub joined : ℕ → Spot → (ℕ → List Spot) → ℕ → List Spot
joined i p qs k = if nat_eq k i then qs k ++ p ∷ [] else qs k
