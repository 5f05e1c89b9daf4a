-- A `&` to the cells is made where one to each cell is.
use Rattle.std.proofs.Common.{List, [], ◌∷◌}
use seplogic.Ra.Ura.{Ura}
use base.Fraction.{full_share}
use base.Fml.{Lft, ftrue}
use contract.BorrowLft.{⊑_static}
use mir.Raw.{raw as bare}
use types.Logic.{Logic}
use denote.Sharing.{ShrLaws}
use denote.SharingLaws.{beside_shr_laws, nothing_shr_laws}
use denote.RawPtr.{Ptr, lies_at}
use denote.Memory.{lone}
use denote.Shares.{Shares-less}
use denote.Struct.Lending.{lent_at, lent_at_shr_laws, Lends, Lends-lies, Lends-first, Lends-both, Lends-nothing}
use denote.Struct.Lending.{of_Lends}
use Rattle.smi_watchers.specs.Memory.{freeing}
use Rattle.smi_watchers.specs.declared.cell.Cell.{Cell}
use Rattle.smi_watchers.specs.contracts.cell.Cell.{the_row as X}
use Rattle.smi_watchers.proofs.cell.Cell.TheLaws.{the_row_laws as L}
use Rattle.smi_watchers.specs.Memory.{cell_owns, cells_own, cells_lent}
use Rattle.smi_watchers.specs.contracts.cells.Cells as C
use Rattle.smi_watchers.proofs.cells.Cells.TheLaw.Statement.{statement}

lent_laws : (hs : List (Ptr × Cell)) → ShrLaws (cells_lent hs)
lent_laws [] = nothing_shr_laws
lent_laws (h ∷ hs) = beside_shr_laws _ _ (lent_at_shr_laws X L.shr_laws h.0 h.1) (lent_laws hs)

Lends-cells : {M : Type 1} {𝓤 : Ura M} (𝓛 : Logic 𝓤) (l : Lft) (hs : List (Ptr × Cell))
    → Lends 𝓛 (cells_own hs) (cells_lent hs) l
Lends-cells 𝓛 l [] = Lends-nothing 𝓛 ftrue l
Lends-cells 𝓛 l (h ∷ hs) =
    Lends-both 𝓛 (cell_owns h) (cells_own hs) (lent_at X h.0 h.1) (cells_lent hs) l
    (Lends-first 𝓛 (lies_at X full_share h.0 h.1) (freeing (bare (lone X.mir)) h.0) (lent_at X h.0 h.1) l
    (Lends-lies 𝓛 X l h.0 h.1 (Shares-less 𝓛 X X.lives l (⊑_static l) (L.shares 𝓛) h.1)))
    (Lends-cells 𝓛 l hs)

pub shares : statement
shares = of_Lends C.struct C.the_codes C.the_heap C.the_lent (λ d p. lent_laws d.held) tt
    (λ M 𝓤 𝓛 d p. Lends-cells 𝓛 C.the_row.lives d.held)
