-- What a step that is made leaves of the grants, and in the store.
use Rattle.std.specs.Prelude.{ℕ, Option, option_map}
use Rattle.smi_rows.specs.Store.{Saved}
use Rattle.smi_tree.specs.Hierarchy.{Hierarchy}
use Rattle.smi_protocol.specs.GrantStep.{GrantStep}
use Rattle.smi_protocol.specs.SavedRows.{saved_row}

-- the row that a step of the grants saves
abbrev pub row_of : Hierarchy → ℕ → GrantStep → Option Saved
row_of h number step = option_map (saved_row h number step.grants) step.row
