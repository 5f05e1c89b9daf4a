-- Which cell lies where.
use Rattle.std.specs.Prelude.{Bool, true, false, ◌&&◌, ◌==◌, if◌then◌else◌, List, [], ◌∷◌, Option, Some, None}
use denote.RawPtr.{Ptr, block_ptr, null_ptr}
use Rattle.smi_watchers.specs.declared.cell.Cell.{Cell}

-- whether two pointers are the same
abbrev pub is_same : Ptr → Ptr → Bool
is_same (block_ptr b o) (block_ptr c p) = (b == c) && (o == p)
is_same (block_ptr b o) null_ptr = false
is_same null_ptr (block_ptr c p) = false
is_same null_ptr null_ptr = true

-- the cell that lies at p
abbrev pub found : Ptr → List (Ptr × Cell) → Option Cell
found p [] = None
found p (h ∷ hs) = if is_same p h.0 then Some h.1 else found p hs

-- all cells but the one at p
abbrev pub without : Ptr → List (Ptr × Cell) → List (Ptr × Cell)
without p [] = []
without p (h ∷ hs) = if is_same p h.0 then without p hs else h ∷ without p hs
