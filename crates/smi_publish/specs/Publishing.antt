-- How objects enter their states.
use Rattle.std.specs.Prelude.{ℕ, ◌+◌, ◌-◌, ◌==◌, if◌then◌else◌, Bool, List, map, Option, None}
use Rattle.std.specs.Prelude.{option_map}
use Rattle.std.specs.List.{list_any}
use Rattle.smi_tree.specs.Hierarchy.{Hierarchy}
use Rattle.smi_tree.specs.Lookups.{domain_count, devices_of, first_state, moved, unit_state}
use Rattle.smi_tree.specs.Roles.{is_kept_by}
use Rattle.smi_publish.specs.declared.condition.Condition.{Condition}
use Rattle.smi_publish.specs.Published.{condition}

-- at a start an object has its class's first state
abbrev pub first_condition : Hierarchy → ℕ → ℕ → Option Condition
first_condition h station object =
    if is_kept_by h station object then option_map (λ state. condition state 0) (first_state h object) else None

-- a new state adds 1 to the sequence, the same state changes nothing
abbrev pub come_to : ℕ → Condition → Condition
come_to state c = if c.state == state then c else condition state (c.sequence + 1)

-- an object enters a state
abbrev pub reported : (ℕ → Option Condition) → ℕ → ℕ → ℕ → Option Condition
reported conditions object state other =
    if other == object then option_map (come_to state) (conditions other) else conditions other

-- the devices of a domain as objects, by number
abbrev pub device_objects : Hierarchy → ℕ → List ℕ
device_objects h domain = map (λ device. domain_count h + device) (devices_of h domain)

abbrev pub is_among : List ℕ → ℕ → Bool
is_among objects object = list_any (λ other. other == object) objects

-- a device moves by its class
abbrev pub moved_by : Hierarchy → ℕ → ℕ → Condition → Condition
moved_by h action object c = come_to (moved h (object - domain_count h) c.state action) c

-- one device moves
abbrev pub moved_at : Hierarchy → (ℕ → Option Condition) → ℕ → ℕ → ℕ → Option Condition
moved_at h conditions action device object =
    if object == device then option_map (moved_by h action object) (conditions object) else conditions object

-- every device of a domain moves by its class
abbrev pub acted : Hierarchy → (ℕ → Option Condition) → ℕ → ℕ → ℕ → Option Condition
acted h conditions domain action object =
    if is_among (device_objects h domain) object then option_map (moved_by h action object) (conditions object)
    else conditions object

-- a unit enters the state that its class gives it over its members
abbrev pub unit_moved : Hierarchy → ℕ → List ℕ → Condition → Condition
unit_moved h domain members c = come_to (unit_state h domain c.state members) c

abbrev pub evaluated : Hierarchy → (ℕ → Option Condition) → ℕ → List ℕ → ℕ → Option Condition
evaluated h conditions domain members object =
    if object == domain then option_map (unit_moved h domain members) (conditions object) else conditions object
