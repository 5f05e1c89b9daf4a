-- What an error of the database means to the store.
use Rattle.std.specs.Prelude.{◌≡◌, ◌⊎◌, false}
use Rattle.sqlite_disk.specs.Disk.{MoreFaults}
use Rattle.sqlite.specs.declared.error.ErrorCode.TheVariants as code
use Rattle.sqlite.specs.declared.error.Error.{Error}
use Rattle.sqlite.specs.declared.error.Error.TheVariants.{SqliteFailure}
use Rattle.sqlite.specs.State.{State}
use Rattle.smi_rows.specs.declared.stable.StoreFault.{StoreFault}
use Rattle.smi_rows.specs.declared.stable.StoreFault.TheVariants.{Memory, Unsure}
use Rattle.smi_stable.specs.SqlTable.{stable_schema, no_schema}

abbrev pub fault_of : Error → StoreFault
fault_of (SqliteFailure code.OutOfMemory) = Memory
fault_of _ = Unsure

-- the database had no memory, or the disk failed
abbrev pub HasReason : State → State → StoreFault → Type 0
HasReason old new fault = (fault ≡ Memory) ⊎ ((fault ≡ Unsure) × MoreFaults old.faults new.faults)

-- nothing stands against taking it over: it is outside a transaction, and has the table of stable rows or no table
abbrev pub CanBeTaken : State → Type 0
CanBeTaken s = (s.in_transaction ≡ false) × ((s.now.schema ≡ stable_schema) ⊎ (s.now.schema ≡ no_schema))
