-- Rows of older schemas rewritten in the newest.
use Rattle.std.specs.Prelude.{ℕ, ◌≡◌, ◌⊎◌, ◌==◌, ◌&&◌, not, true, false, Bool, List, [], ◌∷◌, Option, Some, None}
use Rattle.std.specs.Prelude.{option_map, count_by, take, Result, Ok, Err, if◌then◌else◌}
use Rattle.std.specs.List.{filter_map}
use Rattle.std.specs.Option.{option_map_or}
use Rattle.smi_tree.specs.Hierarchy.{Hierarchy}
use Rattle.smi_rows.specs.declared.Key.{Key}
use Rattle.smi_rows.specs.declared.Row.{Row}
use Rattle.smi_rows.specs.declared.Row.TheVariants as row
use Rattle.smi_rows.specs.declared.RowKind.{RowKind}
use Rattle.smi_rows.specs.declared.RowKind.TheVariants as kind
use Rattle.smi_rows.specs.Key.{kind_of}
use Rattle.smi_rows.specs.Layout.{row_bytes}
use Rattle.smi_rows.specs.Reading.{row_of}
use Rattle.smi_rows.specs.Schema.{newest}
use Rattle.smi_rows.specs.Store.{IsListing, IsSame, Rows, Saved, is_before, saved, with_row}
use Rattle.smi_protocol.specs.Loading.{AllRead, IsFirstFault, IsStation, read, said}
use Rattle.smi_protocol.specs.declared.fault.OpenFault.{OpenFault}
use Rattle.smi_protocol.specs.declared.fault.OpenFault.TheVariants as open_fault
use Rattle.smi_station_grants.specs.Restoring.{and_then, said_to}

-- One row.

abbrev pub about : Row → RowKind
about (row.Boot boot) = kind.Boot
about (row.Domain d) = kind.Domain
about (row.Operator links) = kind.Operator

-- what it says in the newest schema of its kind
abbrev pub newest_bytes : Row → List ℕ
newest_bytes r = row_bytes (newest (about r)) r

-- the number of the schema in which it is written
abbrev pub schema_in : List ℕ → ℕ
schema_in [] = 0
schema_in (n ∷ more) = n

-- it is not written in the newest schema of its kind
abbrev pub is_older : Key → List ℕ → Bool
is_older k b = option_map_or (λ of_kind. not (schema_in b == newest of_kind)) (kind_of k) false

-- such a row of the station
abbrev pub is_renewed : ℕ → Saved → Bool
is_renewed number r = r.key.station == number && is_older r.key r.bytes

-- All rows.

abbrev pub in_newest_if : Option Row → Option (List ℕ) → Option (List ℕ)
in_newest_if None bytes = bytes
in_newest_if (Some r) bytes = Some (newest_bytes r)

-- the rows with each of the station's in its newest schema
abbrev pub in_newest : Hierarchy → ℕ → Rows → Rows
in_newest h number rows k = if k.station == number then in_newest_if (said h rows k) (rows k) else rows k

-- every row says what it said
abbrev pub SaysTheSame : Hierarchy → Rows → Rows → Type 0
SaysTheSame h before after = (k : Key) → said h after k ≡ said h before k

-- Each row is as before or in its newest schema, by rising key: if one is in it, all before it are.
pub record IsPartly (h : Hierarchy) (number : ℕ) (before after : Rows) : Type 0 where
  pub each : (k : Key) → (after k ≡ before k) ⊎ (after k ≡ in_newest h number before k)
  pub rising : (j k : Key) → is_before j k ≡ true → (after j ≡ in_newest h number before j) ⊎ (after k ≡ before k)
  pub same : SaysTheSame h before after

-- the faults are in their order; none is about boots
abbrev pub Migrates : {X : Type 0} → Hierarchy → ℕ → Rows → Result X OpenFault → Type 0
Migrates h number rows (Ok x) = IsStation h number true × AllRead h number rows
Migrates h number rows (Err open_fault.NoSuchStation) = IsStation h number false
Migrates h number rows (Err (open_fault.Row k code)) = IsStation h number true × IsFirstFault h number rows k code
Migrates h number rows (Err open_fault.BootsSpent) = ⊥
Migrates h number rows (Err (open_fault.Store fault)) = IsStation h number true
Migrates h number rows (Err open_fault.Memory) = Unit {0}

-- a fault that is found before anything is saved
abbrev pub IfRefused : {X : Type 0} → Result X OpenFault → Type 0 → Type 0
IfRefused (Err open_fault.NoSuchStation) P = P
IfRefused (Err (open_fault.Row k code)) P = P
IfRefused _ P = Unit {0}

-- how many of the station's rows are of older schemas
pub record Counts (number : ℕ) (rows : Rows) (n : ℕ) : Type 0 where
  pub list : List Saved
  pub listing : IsListing rows list
  pub count : n ≡ count_by (is_renewed number) list

-- Row by row.

-- whether it was told, and not what
abbrev pub only_told : {X : Type 0} → Result X OpenFault → Result (Unit {0}) OpenFault
only_told (Ok x) = Ok tt
only_told (Err fault) = Err fault

-- the rows are told, or the fault of the first that has one
abbrev pub all_told : Hierarchy → ℕ → List Saved → Result (Unit {0}) OpenFault
all_told h number [] = Ok tt
all_told h number (r ∷ more) = and_then (λ said. all_told h number more) (said_to h number r)

-- a row of the station, rewritten if it is of an older schema
abbrev pub renewal : Hierarchy → ℕ → Saved → Option Saved
renewal h number r =
    if is_renewed number r then option_map (λ said. saved r.key (newest_bytes said)) (read (row_of h r.key r.bytes))
    else None

abbrev pub renewals : Hierarchy → ℕ → List Saved → List Saved
renewals h number list = filter_map (renewal h number) list

-- the rows with those of a list saved one after the other
abbrev pub over : Rows → List Saved → Rows
over rows [] = rows
over rows (r ∷ more) = over (with_row r.key r.bytes rows) more

-- rows that are read and of which these are to be saved again
pub record IsToRenew (h : Hierarchy) (number : ℕ) (rows : Rows) (anew : List Saved) : Type 0 where
  pub list : List Saved
  pub listing : IsListing rows list
  pub told : all_told h number list ≡ Ok tt
  pub renewed : anew ≡ renewals h number list

-- the first ones, this many
pub record IsSavedPartly (before : Rows) (list : List Saved) (after : Rows) : Type 0 where
  pub count : ℕ
  pub rows : IsSame after (over before (take count list))
