-- How a step that saves a row ends.
use Rattle.std.specs.Prelude.{ℕ, List, Result, Ok, Err, Option, Some, None}
use Rattle.smi_rows.specs.declared.key.Key.{Key}
use Rattle.smi_rows.specs.Store.{Saved, saved}
use Rattle.smi_protocol.specs.declared.event.StepFault.{StepFault}
use Rattle.smi_protocol.specs.declared.event.StepFault.TheVariants.{NotStored, Stopped, Memory}

-- the row with this key and these bytes, if there is one
abbrev pub row_with : Option Key → List ℕ → Option Saved
row_with None bytes = None
row_with (Some key) bytes = Some (saved key bytes)

-- nothing was saved, and that is known
abbrev pub IfKept : {X : Type 0} → Result X StepFault → Type 0 → Type 0
IfKept (Ok x) P = Unit {0}
IfKept (Err NotStored) P = P
IfKept (Err Stopped) P = Unit {0}
IfKept (Err Memory) P = P

-- nobody knows whether the row was saved
abbrev pub IfStopped : {X : Type 0} → Result X StepFault → Type 0 → Type 0
IfStopped (Ok x) P = Unit {0}
IfStopped (Err NotStored) P = Unit {0}
IfStopped (Err Stopped) P = P
IfStopped (Err Memory) P = Unit {0}

-- memory was refused
abbrev pub IfMemory : {X : Type 0} → Result X StepFault → Type 0 → Type 0
IfMemory (Ok x) P = Unit {0}
IfMemory (Err NotStored) P = Unit {0}
IfMemory (Err Stopped) P = Unit {0}
IfMemory (Err Memory) P = P

-- the store failed
abbrev pub IfCounted : {X : Type 0} → Result X StepFault → Type 0 → Type 0
IfCounted (Ok x) P = Unit {0}
IfCounted (Err NotStored) P = P
IfCounted (Err Stopped) P = P
IfCounted (Err Memory) P = Unit {0}

-- the store did not fail
abbrev pub IfUnfailed : {X : Type 0} → Result X StepFault → Type 0 → Type 0
IfUnfailed (Ok x) P = P
IfUnfailed (Err NotStored) P = Unit {0}
IfUnfailed (Err Stopped) P = Unit {0}
IfUnfailed (Err Memory) P = P

-- it is known whether the row was saved
abbrev pub IfKnown : {X : Type 0} → Result X StepFault → Type 0 → Type 0
IfKnown (Ok x) P = P
IfKnown (Err NotStored) P = P
IfKnown (Err Stopped) P = Unit {0}
IfKnown (Err Memory) P = P
