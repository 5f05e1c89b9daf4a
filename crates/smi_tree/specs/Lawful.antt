-- Which hierarchies a tree may be: everything within its limits, every number one that is there.
use Rattle.std.specs.Prelude.{ℕ, ◌≡◌, ◌<◌, ◌≤◌, ◌==◌, List, length, count_by, Option, Some, option_map}
use Rattle.std.specs.List.{AllByRecursion}
use Rattle.smi_base.specs.declared.trees.TheConstants.{MOST_DEVICES, MOST_DEVICES_OF_A_DOMAIN}
use Rattle.smi_base.specs.declared.trees.TheConstants.{MOST_CHILDREN, MOST_CLASSES, MOST_DOMAINS, MOST_LEVELS}
use Rattle.smi_base.specs.declared.trees.TheConstants.{MOST_RULES_OF_A_CLASS}
use Rattle.smi_base.specs.declared.trees.TheConstants.{MOST_ACTIONS, MOST_OPERATORS, MOST_STATES, MOST_STATIONS}
use Rattle.smi_base.specs.declared.trees.TheConstants.{MOST_OPERATORS_OF_A_STATION}
use Rattle.smi_tree.specs.ClassTable.{ClassTable}
use Rattle.smi_tree.specs.Hierarchy.{Hierarchy, entry, is_child_of, is_device_of, depth_in}
use Rattle.smi_tree.specs.Named.{IsNamed}
use Rattle.smi_tree.specs.declared.declaration.ClassKind.{ClassKind}
use Rattle.smi_tree.specs.declared.declaration.ClassKind.TheVariants as kind
use Rattle.smi_tree.specs.declared.row.Rule.{Rule}
use Rattle.smi_tree.specs.declared.row.Move.{Move}
use Rattle.smi_tree.specs.declared.row.Domain.{Domain}
use Rattle.smi_tree.specs.declared.row.Device.{Device}

pub record IsBetween (low high n : ℕ) : Type 0 where
  pub least : low ≤ n
  pub most : n ≤ high

abbrev pub kind_in : List ClassTable → ℕ → Option ClassKind
kind_in classes class = option_map (λ table. table.kind) (entry classes class)

-- at most 32 operators, each at a station, of which none has more than eight
pub record AreOperators (stations : ℕ) (names : List (List ℕ)) (homes : List ℕ) : Type 0 where
  pub most : length names ≤ MOST_OPERATORS
  pub rows : length homes ≡ length names
  pub each : (operator home : ℕ) → entry homes operator ≡ Some home → IsBetween 1 stations home
  pub of_station : (station : ℕ) → count_by (λ home. home == station) homes ≤ MOST_OPERATORS_OF_A_STATION

pub record IsRule (states : ℕ) (rule : Rule) : Type 0 where
  pub state : IsBetween 1 states rule.state
  pub target : IsBetween 1 states rule.target

pub record IsClass (states actions : ℕ) (table : ClassTable) : Type 0 where
  pub first : IsBetween 1 states table.first
  pub accepted : AllByRecursion (IsBetween 1 actions) table.accepted
  pub rules : AllByRecursion (IsRule states) table.rules
  pub most : length table.rules ≤ MOST_RULES_OF_A_CLASS

-- at most 32 classes
pub record AreClasses (states actions : ℕ) (names : List (List ℕ)) (classes : List ClassTable) : Type 0 where
  pub most : length names ≤ MOST_CLASSES
  pub rows : length classes ≡ length names
  pub each : (class : ℕ) (table : ClassTable) → entry classes class ≡ Some table → IsClass states actions table

pub record IsMove (states actions : ℕ) (classes : List ClassTable) (row : Move) : Type 0 where
  pub class : kind_in classes row.class ≡ Some kind.Device
  pub from : IsBetween 1 states row.from
  pub action : IsBetween 1 actions row.action
  pub to : IsBetween 1 states row.to

-- a domain is of a unit class, and its parent is before it
pub record IsDomain (stations : ℕ) (classes : List ClassTable) (domain : ℕ) (row : Domain) : Type 0 where
  pub station : IsBetween 1 stations row.station
  pub class : kind_in classes row.class ≡ Some kind.Unit
  pub parent : (above : ℕ) → row.parent ≡ Some above → (1 ≤ above) × (above < domain)

-- at most 128 domains, none with more than 16 children, none deeper than 8
pub record AreDomains (stations : ℕ) (classes : List ClassTable) (names : List (List ℕ)) (domains : List Domain)
    : Type 0 where
  pub most : length names ≤ MOST_DOMAINS
  pub rows : length domains ≡ length names
  pub each : (domain : ℕ) (row : Domain) → entry domains domain ≡ Some row → IsDomain stations classes domain row
  pub children : (parent : ℕ) → count_by (is_child_of parent) domains ≤ MOST_CHILDREN
  pub depth : (domain : ℕ) → depth_in domains domain ≤ MOST_LEVELS

pub record IsDevice (domains : ℕ) (classes : List ClassTable) (row : Device) : Type 0 where
  pub domain : IsBetween 1 domains row.domain
  pub class : kind_in classes row.class ≡ Some kind.Device

-- at most 512 devices, none of the domains with more than 16
pub record AreDevices (domains : ℕ) (classes : List ClassTable) (names : List (List ℕ)) (devices : List Device)
    : Type 0 where
  pub most : length names ≤ MOST_DEVICES
  pub rows : length devices ≡ length names
  pub each : (device : ℕ) (row : Device) → entry devices device ≡ Some row → IsDevice domains classes row
  pub of_domain : (domain : ℕ) → count_by (is_device_of domain) devices ≤ MOST_DEVICES_OF_A_DOMAIN

-- a hierarchy within its limits
pub record IsLawful (h : Hierarchy) : Type 0 where
  pub number : h.number ≤ 65535
  pub begun : 1 ≤ length h.station_names → 1 ≤ h.number
  pub states : length h.state_names ≤ MOST_STATES
  pub actions : length h.action_names ≤ MOST_ACTIONS
  pub stations : length h.station_names ≤ MOST_STATIONS
  pub addresses : length h.addresses ≡ length h.station_names
  pub operators : AreOperators (length h.station_names) h.operator_names h.homes
  pub classes : AreClasses (length h.state_names) (length h.action_names) h.class_names h.classes
  pub moves : (place : ℕ) (row : Move) → entry h.moves place ≡ Some row →
      IsMove (length h.state_names) (length h.action_names) h.classes row
  pub domains : AreDomains (length h.station_names) h.classes h.domain_names h.domains
  pub devices : AreDevices (length h.domain_names) h.classes h.device_names h.devices

-- a tree: it has its number, one of each kind at least, and no name twice
pub record IsTree (h : Hierarchy) : Type 0 where
  pub lawful : IsLawful h
  pub number : 1 ≤ h.number
  pub states : 1 ≤ length h.state_names
  pub actions : 1 ≤ length h.action_names
  pub stations : 1 ≤ length h.station_names
  pub operators : 1 ≤ length h.operator_names
  pub domains : 1 ≤ length h.domain_names
  pub names : IsNamed h
