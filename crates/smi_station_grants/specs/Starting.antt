-- What a station that starts finds in its store, and what it leaves there.
use Rattle.std.specs.Prelude.{ℕ, ◌+◌, false, Result, Ok, Err}
use Rattle.smi_tree.specs.Hierarchy.{Hierarchy}
use Rattle.smi_rows.specs.declared.StoreFault.TheVariants as store_fault
use Rattle.smi_rows.specs.Store.{Rows, with_row}
use Rattle.smi_protocol.specs.Display.{Station}
use Rattle.smi_protocol.specs.Grants.{Grants}
use Rattle.smi_protocol.specs.Loading.{grants_in}
use Rattle.smi_protocol.specs.Opening.{first_display}
use Rattle.smi_protocol.specs.SavedRows.{saved_boot}
use Rattle.smi_protocol.specs.declared.fault.OpenFault.{OpenFault}
use Rattle.smi_protocol.specs.declared.fault.OpenFault.TheVariants as open_fault
use Rattle.smi_station_grants.specs.GrantTable.{Kept, grants_of}

-- the station that begins with these grants: it shows its first states, and runs
abbrev pub beginning_with : Hierarchy → ℕ → Result Kept OpenFault → Result Station OpenFault
beginning_with h number (Ok kept) =
    Ok (record { grants = grants_of kept; display = first_display h number; is_stopped = false })
beginning_with h number (Err fault) = Err fault

-- the grants with which it begins
abbrev pub grants_after : Result Kept OpenFault → Result Grants OpenFault
grants_after (Ok kept) = Ok (grants_of kept)
grants_after (Err fault) = Err fault

-- the rows with this boot saved
abbrev pub with_boot : ℕ → ℕ → Rows → Rows
with_boot number boot rows = with_row (saved_boot number boot).key (saved_boot number boot).bytes rows

-- the rows with the boot of one start more
abbrev pub after_start : Hierarchy → ℕ → Rows → Rows
after_start h number rows = with_boot number ((grants_in h number rows).boot + 1) rows

-- What is known of the store afterwards.

-- a result that leaves no doubt of the rows
abbrev pub IfCertain : {X : Type 0} → Result X OpenFault → Type 0 → Type 0
IfCertain (Err (open_fault.Store store_fault.Unsure)) P = Unit {0}
IfCertain _ P = P

-- a fault that leaves no doubt of them
abbrev pub IfUnchanged : {X : Type 0} → Result X OpenFault → Type 0 → Type 0
IfUnchanged (Ok x) P = Unit {0}
IfUnchanged (Err (open_fault.Store store_fault.Unsure)) P = Unit {0}
IfUnchanged (Err fault) P = P

-- nobody knows whether a row was saved
abbrev pub IfInDoubt : {X : Type 0} → Result X OpenFault → Type 0 → Type 0
IfInDoubt (Err (open_fault.Store store_fault.Unsure)) P = P
IfInDoubt _ P = Unit {0}

-- the store failed
abbrev pub IfStoreFailed : {X : Type 0} → Result X OpenFault → Type 0 → Type 0
IfStoreFailed (Err (open_fault.Store fault)) P = P
IfStoreFailed _ P = Unit {0}

-- the store did not fail
abbrev pub IfStoreUnfailed : {X : Type 0} → Result X OpenFault → Type 0 → Type 0
IfStoreUnfailed (Err (open_fault.Store fault)) P = Unit {0}
IfStoreUnfailed _ P = P

-- Faults.

-- a fault that comes of a store or of memory
abbrev pub IsOfStore : OpenFault → Type 0
IsOfStore (open_fault.Store store_fault.Memory) = ⊥
IsOfStore (open_fault.Store store_fault.Device) = Unit {0}
IsOfStore (open_fault.Store store_fault.Unsure) = Unit {0}
IsOfStore open_fault.Memory = Unit {0}
IsOfStore _ = ⊥

-- a fault that is not the store's
abbrev pub IsNotOfStore : OpenFault → Type 0
IsNotOfStore (open_fault.Store fault) = ⊥
IsNotOfStore _ = Unit {0}

-- that memory ran out is not told as a fault of the store
abbrev pub IsToldAsMemory : OpenFault → Type 0
IsToldAsMemory (open_fault.Store store_fault.Memory) = ⊥
IsToldAsMemory _ = Unit {0}
