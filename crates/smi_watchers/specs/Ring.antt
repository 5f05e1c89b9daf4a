-- A ring of nodes: the head, which is no place, and the places of a list.
use Rattle.std.specs.Prelude.{◌≡◌, Bool, true, false, if◌then◌else◌, List, [], ◌∷◌, Option, Some, None}
use Rattle.smi_watchers.specs.declared.cell.Spot.{Spot}
use Rattle.smi_watchers.specs.Held.{is_same}

abbrev pub Node : Type 0
Node = Option Spot

-- whether two nodes are the same
abbrev pub is_node : Node → Node → Bool
is_node None None = true
is_node None (Some q) = false
is_node (Some p) None = false
is_node (Some p) (Some q) = is_same p.at q.at

-- f, but v at k
abbrev pub but : Node → Node → (Node → Node) → Node → Node
but k v f m = if is_node k m then v else f m

-- along next from a come these places and then the head, and prev leads back
abbrev pub Path : (Node → Node) → (Node → Node) → Node → List Spot → Type 0
Path next prev a [] = (next a ≡ None) × (prev None ≡ a)
Path next prev a (p ∷ ps) = (next a ≡ Some p) × (prev (Some p) ≡ a) × Path next prev (Some p) ps

-- a is none of the places
abbrev pub Fresh : Node → List Spot → Type 0
Fresh a [] = Unit {0}
Fresh a (p ∷ ps) = (is_node a (Some p) ≡ false) × Fresh a ps

-- no place comes twice, nor a among them
abbrev pub Apart : Node → List Spot → Type 0
Apart a [] = Unit {0}
Apart a (p ∷ ps) = Fresh a (p ∷ ps) × Apart (Some p) ps

abbrev pub last_of : Node → List Spot → Node
last_of a [] = a
last_of a (p ∷ ps) = last_of (Some p) ps

abbrev pub first_of : List Spot → Node
first_of [] = None
first_of (p ∷ ps) = Some p
