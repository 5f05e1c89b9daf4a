-- What a step wanted memory for.
use Rattle.std.proofs.Common.{◌≡◌, Bool, true, Option, Some, None, Result, Ok, Err, refl}
use Rattle.std.specs.Prelude.{is_some, IsOk, OnErr}
use Rattle.smi_rows.specs.Store.{Saved}
use Rattle.smi_protocol.specs.declared.event.StepFault.{StepFault}
use Rattle.smi_protocol.specs.declared.event.StepFault.TheVariants.{NotStored, Stopped, Memory}
use Rattle.smi_station_grants.specs.Save.{IfMemory}
use Rattle.smi_station.specs.Core.{same_or_memory}
use Rattle.smi_station.specs.Wanting.{wants_memory}

-- for its row
pub for_row : {X : Type 0} (r : Result X StepFault) (row : Option Saved) (entry : Bool)
    → IfMemory r (is_some row ≡ true) → IfMemory r (wants_memory row entry ≡ true)
for_row (Ok x) row entry row_is = tt
for_row (Err NotStored) row entry row_is = tt
for_row (Err Stopped) row entry row_is = tt
for_row (Err Memory) row entry row_is = rw row_is refl

-- for an entry
with_entry : (row : Option Saved) → wants_memory row true ≡ true
with_entry None = refl
with_entry (Some s) = refl

pub for_entry : {X : Type 0} (r : Result X StepFault) (row : Option Saved) (entry : Bool)
    → OnErr r (entry ≡ true) → IfMemory r (wants_memory row entry ≡ true)
for_entry (Ok x) row entry is = tt
for_entry (Err NotStored) row entry is = tt
for_entry (Err Stopped) row entry is = tt
for_entry (Err Memory) row entry is = rw is (with_entry row)

-- for nothing, if it was made
pub for_nothing : {X : Type 0} (r : Result X StepFault) (P : Type 0) → IsOk r → IfMemory r P
for_nothing (Ok x) P made = tt
for_nothing (Err fault) P made = absurd cc

-- a watch that was refused memory
pub as_memory : {X Y : Type 0} (r : Result X Y) (P : Type 0) → OnErr r P → OnErr (same_or_memory r) P
as_memory (Ok x) P p = tt
as_memory (Err e) P p = p
