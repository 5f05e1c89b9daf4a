-- What the owner of the cells owns and lends.
use Rattle.std.specs.Prelude.{List, [], ◌∷◌}
use base.Fml.{Lft, Fml, ftrue, fsep}
use denote.RawPtr.{Ptr}
use denote.Sharing.{nothing, beside}
use denote.Struct.Lending.{lent_at}
use Rattle.std_alloc.specs.Box.Ownership.{box_owns}
use mir.Syntax.{Ty}
use Rattle.std_heap.specs.contracts.GlobalAllocator.TheImpl.{ghosts}
use Rattle.smi_watchers.specs.declared.cell.Cell.{Cell}
use Rattle.smi_watchers.specs.contracts.cell.Cell.{the_row}

-- the right to free a block of `Global`, which is the same for each handle
abbrev pub freeing : Ty → Ptr → Fml
freeing = ghosts.dealloc_token (record { memory = record { seal = tt } })

-- a cell at its place, and the right to free its block
abbrev pub cell_owns : Ptr × Cell → Fml
cell_owns h = box_owns freeing the_row h.0 h.1

abbrev pub cells_own : List (Ptr × Cell) → Fml
cells_own [] = ftrue
cells_own (h ∷ hs) = fsep (cell_owns h) (cells_own hs)

-- what a shared reference has of each cell
abbrev pub cells_lent : List (Ptr × Cell) → Lft → Fml
cells_lent [] = nothing
cells_lent (h ∷ hs) = beside (lent_at the_row h.0 h.1) (cells_lent hs)
