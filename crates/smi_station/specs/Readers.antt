-- What a station tells of itself: of what is not kept there it tells nothing.
use Rattle.std.specs.Prelude.{ℕ, ◌&&◌, if◌then◌else◌, List, Option, Some, None, Result, Ok, Err}
use Rattle.smi_grant.specs.declared.Holder.{Holder}
use Rattle.smi_grant.specs.declared.Shown.{Shown}
use Rattle.smi_grant.specs.Record.{Standing}
use Rattle.smi_command.specs.declared.Link.{Link}
use Rattle.smi_tree.specs.Hierarchy.{Hierarchy}
use Rattle.smi_tree.specs.Lookups.{operators_of}
use Rattle.smi_publish.specs.Published.{shown_at}
use Rattle.smi_rows.specs.declared.Mode.{Mode}
use Rattle.smi_protocol.specs.Display.{Station}
use Rattle.smi_protocol.specs.declared.fault.OpenFault.{OpenFault}
use Rattle.smi_tree.specs.Roles.{has_domain, is_keeper, is_child_unit}
use Rattle.smi_protocol.specs.Refusals.{speaks_for}
use Rattle.smi_station.specs.Core.{Core, number_of, station_of, tree_of}

-- a station and the store of its rows
pub record Whole (S : Type 0) : Type 0 where
  pub core : Core
  pub store : S

-- the record of a domain that it keeps
abbrev pub record_of : Hierarchy → ℕ → Station → ℕ → Option Standing
record_of h number s d = if is_keeper h number d then Some (s.grants.records d) else None

-- the link of a holder of the station to a domain that it may hold
abbrev pub link_of : Hierarchy → ℕ → Station → Holder → ℕ → Option Link
link_of h number s who d = if has_domain h d && speaks_for h number d who then Some (s.grants.links who d) else None

-- the mode in which a domain of the station holds this child
abbrev pub mode_of : Hierarchy → ℕ → Station → ℕ → Option Mode
mode_of h number s d = if is_child_unit h number d then Some (s.grants.modes d) else None

-- what an object of the station shows
abbrev pub current_of : Station → ℕ → Option Shown
current_of s x = shown_at s.grants.boot s.display.conditions x

-- the operators of the station
abbrev pub operators_in : Core → List ℕ
operators_in c = operators_of (tree_of c) (number_of c)

-- the same of a station as it is kept
abbrev pub record_in : Core → ℕ → Option Standing
record_in c d = record_of (tree_of c) (number_of c) (station_of c) d

abbrev pub link_in : Core → Holder → ℕ → Option Link
link_in c who d = link_of (tree_of c) (number_of c) (station_of c) who d

abbrev pub mode_in : Core → ℕ → Option Mode
mode_in c d = mode_of (tree_of c) (number_of c) (station_of c) d

-- How an open ends: with a station with its store, or a fault and the store.

abbrev pub core_in : {S : Type 0} → Result (Whole S) (OpenFault × S) → Result Core OpenFault
core_in (Ok s) = Ok s.core
core_in (Err e) = Err e.0

abbrev pub store_in : {S : Type 0} → Result (Whole S) (OpenFault × S) → S
store_in (Ok s) = s.store
store_in (Err e) = e.1

-- how a restart ends: with the station as it is then, or a fault
abbrev pub restarted : {X : Type 0} → Core → Result X OpenFault → Result Core OpenFault
restarted c (Ok x) = Ok c
restarted c (Err fault) = Err fault
