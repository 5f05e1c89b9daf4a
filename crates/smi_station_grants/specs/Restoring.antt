-- What a station takes from its rows, one after the other.
use Rattle.std.specs.Prelude.{ℕ, ◌≡◌, ◌+◌, ◌==◌, nat_le, true, List, [], ◌∷◌, Option, Some, None, Result, Ok, Err}
use Rattle.std.specs.Prelude.{if◌then◌else◌}
use Rattle.smi_message.specs.Message.{last_boot}
use Rattle.smi_tree.specs.Hierarchy.{Hierarchy}
use Rattle.smi_rows.specs.declared.Key.{Key}
use Rattle.smi_rows.specs.declared.Row.{Row}
use Rattle.smi_rows.specs.declared.Row.TheVariants as row
use Rattle.smi_rows.specs.declared.RowFault.{RowFault}
use Rattle.smi_rows.specs.declared.RowFault.TheVariants.{Code, Memory}
use Rattle.smi_rows.specs.Known.{is_known}
use Rattle.smi_rows.specs.Reading.{row_of}
use Rattle.smi_rows.specs.Store.{Saved}
use Rattle.smi_protocol.specs.Grants.{Grants, no_grants}
use Rattle.smi_protocol.specs.declared.fault.OpenFault.{OpenFault}
use Rattle.smi_protocol.specs.declared.fault.OpenFault.TheVariants as open_fault
use Rattle.smi_station_grants.specs.Restored.{with_domain, with_operator}

-- a result is the one that is to come, unless memory ran out
abbrev pub Comes : {X : Type 0} → Result X OpenFault → Result X OpenFault → Type 0
Comes (Ok x) y = y ≡ Ok x
Comes (Err open_fault.NoSuchStation) y = y ≡ Err open_fault.NoSuchStation
Comes (Err (open_fault.Row k code)) y = y ≡ Err (open_fault.Row k code)
Comes (Err open_fault.BootsSpent) y = y ≡ Err open_fault.BootsSpent
Comes (Err (open_fault.Store fault)) y = y ≡ Err (open_fault.Store fault)
Comes (Err open_fault.Memory) y = Unit {0}

-- what is left if nothing was refused
abbrev pub leaving : {X Y : Type 0} → Y → Result X OpenFault → Result Y OpenFault
leaving y (Ok x) = Ok y
leaving y (Err fault) = Err fault

abbrev pub and_then : {X Y : Type 0} → (X → Result Y OpenFault) → Result X OpenFault → Result Y OpenFault
and_then f (Ok x) = f x
and_then f (Err fault) = Err fault

-- One row.

abbrev pub own_row : Key → Result Row RowFault → Result (Option Row) OpenFault
own_row k (Ok r) = Ok (Some r)
own_row k (Err (Code n)) = Err (open_fault.Row k n)
own_row k (Err Memory) = Err open_fault.Memory

-- what a row says to the station: one of another station says nothing
abbrev pub said_to : Hierarchy → ℕ → Saved → Result (Option Row) OpenFault
said_to h number r = if r.key.station == number then own_row r.key (row_of h r.key r.bytes) else Ok None

-- the row is the station's, and the tree has what it names
abbrev pub IsOwn : Hierarchy → ℕ → Key → Row → Type 0
IsOwn h number k r = (k.station ≡ number) × (is_known h k r ≡ true)

-- the grants with what the row of this key says
abbrev pub as_said : Hierarchy → Grants → Key → Row → Grants
as_said h g k (row.Boot boot) = record g { boot = boot }
as_said h g k (row.Domain d) = with_domain h g k.domain d
as_said h g k (row.Operator links) = with_operator h g k.operator links

abbrev pub as_told : Hierarchy → Grants → Key → Option Row → Grants
as_told h g k None = g
as_told h g k (Some r) = as_said h g k r

-- the grants with one row more, or its fault
abbrev pub taken : Hierarchy → ℕ → Grants → Saved → Result Grants OpenFault
taken h number g r = and_then (λ said. Ok (as_told h g r.key said)) (said_to h number r)

-- All rows.

-- the grants with all of them, or the fault of the first that has one
abbrev pub restored : Hierarchy → ℕ → Grants → List Saved → Result Grants OpenFault
restored h number g [] = Ok g
restored h number g (r ∷ more) = and_then (λ k. restored h number k more) (taken h number g r)

-- one start more, if there is one left
abbrev pub raised : Grants → Result Grants OpenFault
raised g = if nat_le last_boot g.boot then Err open_fault.BootsSpent else Ok (record g { boot = g.boot + 1 })

-- with what a station starts that finds these rows
abbrev pub started : Hierarchy → ℕ → List Saved → Result Grants OpenFault
started h number list = and_then raised (restored h number no_grants list)
