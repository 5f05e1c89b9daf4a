-- Rows that say all that a station keeps.
use Rattle.std.specs.Prelude.{ℕ, ◌≡◌, ◌≢◌, None, Result, Ok, Err}
use Rattle.smi_message.specs.Message.{last_boot}
use Rattle.smi_tree.specs.Hierarchy.{Hierarchy}
use Rattle.smi_rows.specs.Store.{Rows}
use Rattle.smi_protocol.specs.Display.{Station}
use Rattle.smi_protocol.specs.Grants.{Grants}
use Rattle.smi_protocol.specs.Loading.{AllRead, grants_in}
use Rattle.smi_protocol.specs.Opening.{opened}
use Rattle.smi_protocol.specs.declared.fault.OpenFault.{OpenFault}
use Rattle.smi_protocol.specs.declared.fault.OpenFault.TheVariants as open_fault

-- nothing was ever saved
abbrev pub no_rows : Rows
no_rows k = None

-- the station's rows are read, and mean these grants and no others
pub record IsStored (h : Hierarchy) (number : ℕ) (g : Grants) (rows : Rows) : Type 0 where
  pub read : AllRead h number rows
  pub means : grants_in h number rows ≡ g

-- How a start on such rows ends: with a restart of the station that kept these grants, or no start is left. A
-- fault of the store, and out of memory, may come at any place.
abbrev pub Restarts : Hierarchy → ℕ → Grants → Result Station OpenFault → Type 0
Restarts h number g (Ok s) = (g.boot ≢ last_boot) × (s ≡ opened h number g)
Restarts h number g (Err open_fault.NoSuchStation) = ⊥
Restarts h number g (Err (open_fault.Row k code)) = ⊥
Restarts h number g (Err open_fault.BootsSpent) = g.boot ≡ last_boot
Restarts h number g (Err (open_fault.Store fault)) = Unit {0}
Restarts h number g (Err open_fault.Memory) = Unit {0}
