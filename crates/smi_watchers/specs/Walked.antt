-- The cells that come one after another in an object's list.
use Rattle.std.specs.Prelude.{◌≡◌, ℕ, zero, suc, Bool, ◌==◌, List, [], ◌∷◌, length, map, find, Option, Some, None}
use Rattle.std.specs.Prelude.{IsSome, option_map}
use Rattle.smi_watchers.specs.declared.cell.Cell.{Cell}
use Rattle.smi_watchers.specs.declared.cell.Spot.{Spot}
use Rattle.smi_watchers.specs.declared.lists.Axis.TheVariants.{Object}
use Rattle.smi_watchers.specs.Held.{found}
use Rattle.smi_watchers.specs.Net.{Net, cell_at, next}

-- at most this many places from a node on
abbrev pub trace : ℕ → Net → Option Spot → List Spot
trace zero n m = []
trace (suc k) n None = []
trace (suc k) n (Some p) = p ∷ trace k n (cell_at n p).by_object.after

abbrev pub walked : Net → Option Spot → List Spot
walked n m = trace (length n.held) n m

-- these places are all that come
abbrev pub Chain : Net → Option Spot → List Spot → Type 0
Chain n m [] = m ≡ None
Chain n m (p ∷ ps) = (m ≡ Some p) × IsSome (found p.at n.held) × Chain n (cell_at n p).by_object.after ps

-- a place with the cell that lies there
abbrev pub step_at : Net → Spot → Spot × Cell
step_at n p = (p, cell_at n p)

abbrev pub steps_from : Net → Option Spot → List (Spot × Cell)
steps_from n m = map (step_at n) (walked n m)

-- the cells of an object's list, counted from 0
abbrev pub steps_of : Net → ℕ → List (Spot × Cell)
steps_of n object = steps_from n (next Object object n None)

abbrev pub is_step_of : ℕ → Spot × Cell → Bool
is_step_of station s = s.1.station == station

-- where the first cell of a station is
abbrev pub place_in : ℕ → List (Spot × Cell) → Option Spot
place_in station steps = option_map (λ (s : Spot × Cell). s.0) (find (is_step_of station) steps)
