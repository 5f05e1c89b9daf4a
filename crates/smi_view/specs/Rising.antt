-- Publications whose versions rise, and readings of them.
use Rattle.std.specs.Prelude.{◌≡◌, ◌⊎◌, true, List, ◌∷◌, ◌++◌, Option, Some, None}
use Rattle.smi_grant.specs.declared.state.Shown.{Shown}
use Rattle.smi_view.specs.Accepting.{is_newer, is_newer_than_last}
use Rattle.smi_view.specs.Rows.{last_row}

-- each row is newer than all rows of its object before it
abbrev pub IsRising : List Shown → Type 0
IsRising rows = (front rest : List Shown) (row : Shown) → rows ≡ front ++ row ∷ rest
    → is_newer_than_last (last_row row.object front) row.version ≡ true

-- what is read later is the same row, or a newer one
abbrev pub IsReadAfter : Option Shown → Option Shown → Type 0
IsReadAfter None later = Unit {0}
IsReadAfter (Some row) None = ⊥
IsReadAfter (Some row) (Some later) = (later ≡ row) ⊎ (is_newer later.version row.version ≡ true)
