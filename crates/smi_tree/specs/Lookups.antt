-- What a hierarchy says of a number: of a domain, a device, an operator, a station, an object.
use Rattle.std.specs.Prelude.{ℕ, suc, zero, ◌+◌, ◌-◌, ◌==◌, nat_le, Bool, false, List, [], ◌∷◌, length, Option, Some}
use Rattle.std.specs.Prelude.{None, option_and_then, option_map, if◌then◌else◌}
use Rattle.std.specs.Option.{option_map_or, option_or}
use Rattle.std.specs.List.{list_any}
use Rattle.smi_base.specs.declared.trees.TheConstants.{MOST_LEVELS}
use Rattle.smi_tree.specs.Name.{number_of}
use Rattle.smi_tree.specs.Rules.{state_by}
use Rattle.smi_tree.specs.ClassTable.{ClassTable}
use Rattle.smi_tree.specs.Hierarchy.{Hierarchy, entry, parent_in, ancestors, is_child_of, is_device_of, move_in}
use Rattle.smi_tree.specs.declared.row.Domain.{Domain}

abbrev pub state_count : Hierarchy → ℕ
state_count h = length h.state_names

abbrev pub action_count : Hierarchy → ℕ
action_count h = length h.action_names

abbrev pub station_count : Hierarchy → ℕ
station_count h = length h.station_names

abbrev pub operator_count : Hierarchy → ℕ
operator_count h = length h.operator_names

abbrev pub domain_count : Hierarchy → ℕ
domain_count h = length h.domain_names

abbrev pub device_count : Hierarchy → ℕ
device_count h = length h.device_names

-- the numbers of the rows that pass a test, the first row having this number
abbrev pub numbers_from : {X : Type 0} → (X → Bool) → ℕ → List X → List ℕ
numbers_from test number [] = []
numbers_from test number (row ∷ rows) =
    if test row then number ∷ numbers_from test (number + 1) rows else numbers_from test (number + 1) rows

-- the children of a domain by number
abbrev pub children_of : Hierarchy → ℕ → List ℕ
children_of h domain = numbers_from (is_child_of domain) 1 h.domains

-- the devices of a domain by number
abbrev pub devices_of : Hierarchy → ℕ → List ℕ
devices_of h domain = numbers_from (is_device_of domain) 1 h.devices

-- the operators of a station by number
abbrev pub operators_of : Hierarchy → ℕ → List ℕ
operators_of h station = numbers_from (λ home. home == station) 1 h.homes

abbrev pub parent_of : Hierarchy → ℕ → Option ℕ
parent_of h domain = parent_in h.domains domain

abbrev pub station_of : Hierarchy → ℕ → Option ℕ
station_of h domain = option_map (λ row. row.station) (entry h.domains domain)

abbrev pub operator_station_of : Hierarchy → ℕ → Option ℕ
operator_station_of h operator = entry h.homes operator

-- one domain is below another where a chain of parents leads from it to the other
abbrev pub is_below : Hierarchy → ℕ → ℕ → Bool
is_below h target domain = list_any (λ above. above == domain) (ancestors MOST_LEVELS h.domains target)

-- the last domain before `domain` on the way up from `target`
unfoldable pub towards : ℕ → List Domain → ℕ → ℕ → Option ℕ
towards zero domains domain target = None
towards (suc more) domains domain target =
    option_and_then (λ parent. if parent == domain then Some target else towards more domains domain parent)
    (parent_in domains target)

-- the child of a domain that a target is below or is, if it is below the domain
abbrev pub child_towards : Hierarchy → ℕ → ℕ → Option ℕ
child_towards h domain target = towards MOST_LEVELS h.domains domain target

-- an object is a unit, numbered as its domain, or a device, numbered after all domains
abbrev pub object_named : Hierarchy → List ℕ → Option ℕ
object_named h name = option_or (number_of h.domain_names name)
    (option_map (λ device. domain_count h + device) (number_of h.device_names name))

abbrev pub object_name : Hierarchy → ℕ → Option (List ℕ)
object_name h object =
    if nat_le object (domain_count h) then entry h.domain_names object
    else entry h.device_names (object - domain_count h)

abbrev pub class_of_domain : Hierarchy → ℕ → Option ClassTable
class_of_domain h domain = option_and_then (λ row. entry h.classes row.class) (entry h.domains domain)

abbrev pub class_of_device : Hierarchy → ℕ → Option ClassTable
class_of_device h device = option_and_then (λ row. entry h.classes row.class) (entry h.devices device)

-- the state in which an object begins
abbrev pub first_state : Hierarchy → ℕ → Option ℕ
first_state h object =
    option_map (λ table. table.first)
    (if nat_le object (domain_count h) then class_of_domain h object else class_of_device h (object - domain_count h))

-- where a class goes from a state by an action: if it has no row, it stays
abbrev pub moved_by : Hierarchy → ℕ → ℕ → ℕ → ℕ
moved_by h class state action = option_map_or (λ row. row.to) (move_in h.moves class state action) state

-- where a device goes
abbrev pub moved : Hierarchy → ℕ → ℕ → ℕ → ℕ
moved h device state action = option_map_or (λ row. moved_by h row.class state action) (entry h.devices device) state

-- whether a domain accepts an action
abbrev pub accepts : Hierarchy → ℕ → ℕ → Bool
accepts h domain action =
    option_map_or (λ table. list_any (λ other. other == action) table.accepted) (class_of_domain h domain) false

-- the state of a domain's unit after its members' states: the target of the first rule that holds, else the old state
abbrev pub unit_state : Hierarchy → ℕ → ℕ → List ℕ → ℕ
unit_state h domain old members =
    option_map_or (λ table. state_by table.rules old members) (class_of_domain h domain) old
