-- What is lawful in a tree and surely not meant.
use Rattle.std.specs.Prelude.{ℕ, ◌+◌, ◌==◌, ◌&&◌, ◌||◌, nat_lt, not, Bool, false, [], ◌∷◌, length, Option, find}
use Rattle.std.specs.Option.{option_map_or}
use Rattle.std.specs.List.{list_any, range_with_len}
use Rattle.smi_tree.specs.Hierarchy.{Hierarchy, entry}
use Rattle.smi_tree.specs.Lookups.{state_count, action_count, domain_count, device_count, first_state, moved, accepts}
use Rattle.smi_tree.specs.Lookups.{is_below, unit_state, children_of, devices_of, parent_of}
use Rattle.std.specs.Str.{bytes_eq}
use Rattle.smi_tree.specs.declared.number.Address.{Address}

-- some number up to this one passes the test; 0 is the number of nothing, and the state of a member not shown yet
abbrev pub some_up_to : ℕ → (ℕ → Bool) → Bool
some_up_to most test = list_any test (range_with_len 0 (most + 1))

-- Actions.

-- the class of a domain's unit, 0 if there is no such domain
abbrev pub class_of : Hierarchy → ℕ → ℕ
class_of h domain = option_map_or (λ row. row.class) (entry h.domains domain) 0

-- the domain of a device, 0 if there is no such device
abbrev pub home_of : Hierarchy → ℕ → ℕ
home_of h device = option_map_or (λ row. row.domain) (entry h.devices device) 0

-- a device goes to another state by the action, from some state
unfoldable pub stirs : Hierarchy → ℕ → ℕ → Bool
stirs h device action = some_up_to (state_count h) (λ from. not (moved h device from action == from))

-- a domain is of this class, or lies below one that is
unfoldable pub lies_under : Hierarchy → ℕ → ℕ → Bool
lies_under h class domain = some_up_to (domain_count h)
    (λ above. class_of h above == class && (above == domain || is_below h domain above))

-- the action moves a device of a domain of this class, or below one
unfoldable pub stirs_below : Hierarchy → ℕ → ℕ → Bool
stirs_below h class action = some_up_to (device_count h)
    (λ device. stirs h device action && lies_under h class (home_of h device))

unfoldable pub is_first_of_class : Hierarchy → ℕ → Bool
is_first_of_class h domain =
    not (list_any (λ other. class_of h other == class_of h domain) (range_with_len 0 domain))

-- the first domain of a class that accepts an action by which no device moves, in a domain of the class or below
abbrev pub is_idle : Hierarchy → ℕ → ℕ → Bool
is_idle h domain action =
    accepts h domain action && (is_first_of_class h domain && not (stirs_below h (class_of h domain) action))

-- States.

abbrev pub begins : Hierarchy → ℕ → ℕ → Bool
begins h object state = option_map_or (λ first. first == state) (first_state h object) false

-- some object begins in the state
unfoldable pub some_begins : Hierarchy → ℕ → Bool
some_begins h state = some_up_to (domain_count h + device_count h) (λ object. begins h object state)

unfoldable pub comes_from : Hierarchy → ℕ → ℕ → ℕ → Bool
comes_from h device from state =
    some_up_to (action_count h) (λ action. not (from == state) && moved h device from action == state)

unfoldable pub comes : Hierarchy → ℕ → ℕ → Bool
comes h device state = some_up_to (state_count h) (λ from. comes_from h device from state)

-- some action brings some device there from another state
unfoldable pub some_comes : Hierarchy → ℕ → Bool
some_comes h state = some_up_to (device_count h) (λ device. comes h device state)

unfoldable pub goes_with : Hierarchy → ℕ → ℕ → ℕ → Bool
goes_with h domain first state =
    some_up_to (state_count h) (λ second. unit_state h domain 0 (first ∷ second ∷ []) == state)

unfoldable pub goes : Hierarchy → ℕ → ℕ → Bool
goes h domain state = some_up_to (state_count h) (λ first. goes_with h domain first state)

-- some rule brings some unit there over two members
unfoldable pub some_goes : Hierarchy → ℕ → Bool
some_goes h state = some_up_to (domain_count h) (λ domain. goes h domain state)

-- no object begins in the state, and nothing leads to it
abbrev pub is_unreached : Hierarchy → ℕ → Bool
is_unreached h state = not (some_begins h state || (some_comes h state || some_goes h state))

-- Rules.

-- a domain has two members or more
abbrev pub is_shared : Hierarchy → ℕ → Bool
is_shared h domain =
    option_map_or (λ row. nat_lt 1 (length (children_of h domain) + length (devices_of h domain)))
    (entry h.domains domain) false

-- some domain of the class has two members or more
unfoldable pub has_shared : Hierarchy → ℕ → Bool
has_shared h class =
    some_up_to (domain_count h) (λ domain. class_of h domain == class && is_shared h domain)

-- the device's class has a move out of the state
unfoldable pub leaves : Hierarchy → ℕ → ℕ → Bool
leaves h device state = some_up_to (action_count h) (λ action. not (moved h device state action == state))

-- the class of the unit above a domain, 0 for a root
abbrev pub class_above : Hierarchy → ℕ → ℕ
class_above h domain = option_map_or (λ parent. class_of h parent) (parent_of h domain) 0

-- a child of a domain of the class: its unit begins in the state, or a rule leads it there
abbrev pub child_comes : Hierarchy → ℕ → ℕ → ℕ → Bool
child_comes h class child state =
    class_above h child == class && (begins h child state || goes h child state)

abbrev pub device_begins : Hierarchy → ℕ → ℕ → Bool
device_begins h device state =
    option_map_or (λ row. begins h (domain_count h + device) state) (entry h.devices device) false

-- a device of a domain of the class: it begins in the state, or its class has a move that leads there or leaves it
abbrev pub device_comes : Hierarchy → ℕ → ℕ → ℕ → Bool
device_comes h class device state =
    class_of h (home_of h device) == class
    && (device_begins h device state || (comes h device state || leaves h device state))

unfoldable pub some_child_comes : Hierarchy → ℕ → ℕ → Bool
some_child_comes h class state = some_up_to (domain_count h) (λ child. child_comes h class child state)

unfoldable pub some_device_comes : Hierarchy → ℕ → ℕ → Bool
some_device_comes h class state = some_up_to (device_count h) (λ device. device_comes h class device state)

-- a member of a domain of the class can be in the state, as far as the tree file says
abbrev pub is_of_member : Hierarchy → ℕ → ℕ → Bool
is_of_member h class state =
    not (state == 0) && (some_child_comes h class state || some_device_comes h class state)

-- the first domain of a class: no rule holds if all its members are in the state, in which some can be
abbrev pub is_unruled : Hierarchy → ℕ → ℕ → Bool
is_unruled h domain state =
    is_first_of_class h domain
    && (unit_state h domain 0 (state ∷ []) == 0 && is_of_member h (class_of h domain) state)

-- no rule holds over members in the state and others in states that no rule names
abbrev pub is_passed_over : Hierarchy → ℕ → ℕ → Bool
is_passed_over h domain state =
    is_first_of_class h domain
    && (unit_state h domain 0 (state ∷ 0 ∷ []) == 0 && is_of_member h (class_of h domain) state)

unfoldable pub passes_over_others : Hierarchy → ℕ → ℕ → Bool
passes_over_others h domain state =
    some_up_to (state_count h) (λ other. not (other == state) && is_passed_over h domain other)

-- the first domain of a class: no rule holds over members in two or more of such states
abbrev pub is_mixed : Hierarchy → ℕ → ℕ → Bool
is_mixed h domain state =
    is_passed_over h domain state
    && (has_shared h (class_of h domain) && passes_over_others h domain state)

-- Commands on their way.

-- a domain is the first one of its class below one of its parent's class
unfoldable pub is_first_below : Hierarchy → ℕ → Bool
is_first_below h domain =
    not (list_any (λ other. class_of h other == class_of h domain && class_above h other == class_above h domain)
    (range_with_len 0 domain))

abbrev pub is_accepted_above : Hierarchy → ℕ → ℕ → Bool
is_accepted_above h domain action = option_map_or (λ parent. accepts h parent action) (parent_of h domain) false

-- the first such domain: its parent accepts the action, and it does not
abbrev pub is_refused : Hierarchy → ℕ → ℕ → Bool
is_refused h domain action =
    is_accepted_above h domain action && (not (accepts h domain action) && is_first_below h domain)

-- Devices that seem to obey.

-- the class of a device, 0 if there is no such device
abbrev pub kind_of : Hierarchy → ℕ → ℕ
kind_of h device = option_map_or (λ row. row.class) (entry h.devices device) 0

unfoldable pub is_first_of_kind : Hierarchy → ℕ → Bool
is_first_of_kind h device =
    not (list_any (λ other. kind_of h other == kind_of h device) (range_with_len 0 device))

-- the action moves the device out of this state, in which it begins
abbrev pub moves_from_first : Hierarchy → ℕ → ℕ → ℕ → Bool
moves_from_first h device action first =
    device_begins h device first && not (moved h device first action == first)

unfoldable pub moves_unreported : Hierarchy → ℕ → ℕ → Bool
moves_unreported h device action = some_up_to (state_count h) (λ first. moves_from_first h device action first)

-- the first device of a class that an action moves though nobody has reported it
abbrev pub is_obedient : Hierarchy → ℕ → ℕ → Bool
is_obedient h device action = moves_unreported h device action && is_first_of_kind h device

-- Addresses.

abbrev pub is_same : Address → Address → Bool
is_same one two = one.port == two.port && bytes_eq one.host two.host

-- both stations are there, and have the same address
abbrev pub has_same_address : Hierarchy → ℕ → ℕ → Bool
has_same_address h station other =
    option_map_or (λ one. option_map_or (is_same one) (entry h.addresses other) false) (entry h.addresses station) false

-- the first station before this one with the same address
abbrev pub twin : Hierarchy → ℕ → Option ℕ
twin h station = find (has_same_address h station) (range_with_len 0 station)
