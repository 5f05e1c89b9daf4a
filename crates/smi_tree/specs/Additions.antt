-- What each declaration adds to the hierarchy of the lines above it, or its first fault: an unknown name first, then a
-- second declaration, then a class of the other kind, and a limit last.
use Rattle.std.specs.Prelude.{ℕ, ◌-◌, ◌==◌, ◌&&◌, ◌||◌, nat_lt, Bool, true, List, [], ◌∷◌, ◌++◌, length, count_by}
use Rattle.std.specs.Prelude.{is_some, slice_set, ok_or, Option, Some, None, Result, Ok, Err, if◌then◌else◌}
use Rattle.std.specs.List.{list_any}
use Rattle.smi_base.specs.declared.trees.TheConstants.{MOST_DEVICES, MOST_DEVICES_OF_A_DOMAIN}
use Rattle.smi_base.specs.declared.trees.TheConstants.{MOST_CHILDREN, MOST_CLASSES, MOST_DOMAINS, MOST_LEVELS}
use Rattle.smi_base.specs.declared.trees.TheConstants.{MOST_RULES_OF_A_CLASS}
use Rattle.smi_base.specs.declared.trees.TheConstants.{MOST_ACTIONS, MOST_OPERATORS, MOST_STATES, MOST_STATIONS}
use Rattle.smi_base.specs.declared.trees.TheConstants.{MOST_OPERATORS_OF_A_STATION}
use Rattle.smi_tree.specs.Fault.{◌>>=◌}
use Rattle.smi_tree.specs.Declaration.{declaration_of}
use Rattle.smi_tree.specs.declared.declaration.Keyword.{Keyword}
use Rattle.smi_tree.specs.Name.{number_of, is_declared, added}
use Rattle.smi_tree.specs.ClassTable.{ClassTable, class_table, is_kind}
use Rattle.smi_tree.specs.Hierarchy.{Hierarchy, entry, depth_in, is_child_of, is_device_of, move_in}
use Rattle.smi_tree.specs.declared.number.Address.{Address}
use Rattle.smi_tree.specs.declared.fault.Fault.{Fault}
use Rattle.smi_tree.specs.declared.fault.Fault.TheVariants.{Twice, UnknownName, OverLimit, OtherKind}
use Rattle.smi_tree.specs.declared.declaration.ClassKind.{ClassKind}
use Rattle.smi_tree.specs.declared.declaration.ClassKind.TheVariants as kind
use Rattle.smi_tree.specs.declared.declaration.Quantifier.{Quantifier}
use Rattle.smi_tree.specs.declared.declaration.Declaration.{Declaration}
use Rattle.smi_tree.specs.declared.declaration.Declaration.TheVariants as declares

-- the number of a name that has to be above
abbrev pub known : List (List ℕ) → List ℕ → Result ℕ Fault
known names name = ok_or (number_of names name) UnknownName

-- the number and the table of a class that has to be above
unfoldable pub known_class : Hierarchy → List ℕ → Result (ℕ × ClassTable) Fault
known_class h name = do
  class ← known h.class_names name
  table ← ok_or (entry h.classes class) UnknownName
  Ok (class, table)

-- domains, devices and operators share their names
abbrev pub is_taken : Hierarchy → List ℕ → Bool
is_taken h name =
    is_declared h.operator_names name || (is_declared h.domain_names name || is_declared h.device_names name)

unfoldable pub with_state : Hierarchy → List ℕ → Result Hierarchy Fault
with_state h name = do
  names ← added MOST_STATES h.state_names name
  Ok (record h { state_names = names })

unfoldable pub with_action : Hierarchy → List ℕ → Result Hierarchy Fault
with_action h name = do
  names ← added MOST_ACTIONS h.action_names name
  Ok (record h { action_names = names })

unfoldable pub with_station : Hierarchy → List ℕ → Address → Result Hierarchy Fault
with_station h name address = do
  names ← added MOST_STATIONS h.station_names name
  Ok (record h { station_names = names; addresses = h.addresses ++ address ∷ [] })

-- at most eight operators of a station
unfoldable pub with_operator : Hierarchy → List ℕ → List ℕ → Result Hierarchy Fault
with_operator h name station = do
  home ← known h.station_names station
  if is_taken h name then Err Twice
      else (if nat_lt (length h.operator_names) MOST_OPERATORS
      && nat_lt (count_by (λ other. other == home) h.homes) MOST_OPERATORS_OF_A_STATION
      then Ok (record h { operator_names = h.operator_names ++ name ∷ []; homes = h.homes ++ home ∷ [] })
      else Err OverLimit)

unfoldable pub with_class : Hierarchy → ClassKind → List ℕ → List ℕ → Result Hierarchy Fault
with_class h which name first = do
  state ← known h.state_names first
  names ← added MOST_CLASSES h.class_names name
  Ok (record h { class_names = names; classes = h.classes ++ class_table which state ∷ [] })

-- one row for each state and action of a device class
unfoldable pub with_move : Hierarchy → List ℕ → List ℕ → List ℕ → List ℕ → Result Hierarchy Fault
with_move h class from action to = do
  found ← known_class h class
  before ← known h.state_names from
  by ← known h.action_names action
  after ← known h.state_names to
  if is_some (move_in h.moves found.0 before by) then Err Twice
      else (if is_kind found.1.kind kind.Device
      then Ok (record h { moves = h.moves ++ record { class = found.0; from = before; action = by; to = after } ∷ [] })
      else Err OtherKind)

unfoldable pub with_accepted : Hierarchy → List ℕ → List ℕ → Result Hierarchy Fault
with_accepted h class action = do
  found ← known_class h class
  accepted ← known h.action_names action
  if list_any (λ other. other == accepted) found.1.accepted then Err Twice
      else (if is_kind found.1.kind kind.Unit
      then Ok (record h {
        classes = slice_set h.classes (found.0 - 1)
            (record found.1 { accepted = found.1.accepted ++ accepted ∷ [] });
      })
      else Err OtherKind)

-- at most 32 rules of a class
unfoldable pub with_rule : Hierarchy → Quantifier → List ℕ → List ℕ → List ℕ → Result Hierarchy Fault
with_rule h which class state target = do
  found ← known_class h class
  of ← known h.state_names state
  to ← known h.state_names target
  if is_kind found.1.kind kind.Unit
      then (if nat_lt (length found.1.rules) MOST_RULES_OF_A_CLASS
      then Ok (record h {
        classes = slice_set h.classes (found.0 - 1)
            (record found.1 { rules = found.1.rules ++ record { quantifier = which; state = of; target = to } ∷ [] });
      })
      else Err OverLimit)
      else Err OtherKind

-- the number of a parent that has to be above, if there is one
unfoldable pub known_parent : Hierarchy → Option (List ℕ) → Result (Option ℕ) Fault
known_parent h None = Ok None
known_parent h (Some name) = do
  parent ← known h.domain_names name
  Ok (Some parent)

-- a parent has room for one more child: fewer than 16 children, and it lies less than 8 deep
unfoldable pub has_room : Hierarchy → Option ℕ → Bool
has_room h None = true
has_room h (Some parent) =
    nat_lt (count_by (is_child_of parent) h.domains) MOST_CHILDREN && nat_lt (depth_in h.domains parent) MOST_LEVELS

unfoldable pub with_domain : Hierarchy → List ℕ → List ℕ → List ℕ → Option (List ℕ) → Result Hierarchy Fault
with_domain h name station class parent = do
  keeper ← known h.station_names station
  found ← known_class h class
  above ← known_parent h parent
  if is_taken h name then Err Twice
      else (if is_kind found.1.kind kind.Unit
      then (if nat_lt (length h.domain_names) MOST_DOMAINS && has_room h above
      then Ok (record h {
        domain_names = h.domain_names ++ name ∷ [];
        domains = h.domains ++ record { station = keeper; class = found.0; parent = above } ∷ [];
      })
      else Err OverLimit)
      else Err OtherKind)

-- at most sixteen devices of a domain
unfoldable pub with_device : Hierarchy → List ℕ → List ℕ → List ℕ → Result Hierarchy Fault
with_device h name domain class = do
  place ← known h.domain_names domain
  found ← known_class h class
  if is_taken h name then Err Twice
      else (if is_kind found.1.kind kind.Device
      then (if nat_lt (length h.device_names) MOST_DEVICES
      && nat_lt (count_by (is_device_of place) h.devices) MOST_DEVICES_OF_A_DOMAIN
      then Ok (record h {
        device_names = h.device_names ++ name ∷ [];
        devices = h.devices ++ record { domain = place; class = found.0 } ∷ [];
      })
      else Err OverLimit)
      else Err OtherKind)

-- the hierarchy with what a line declares
abbrev pub with_declaration : Hierarchy → Declaration → Result Hierarchy Fault
with_declaration h (declares.Tree number) = Ok (record h { number = number })
with_declaration h (declares.State name) = with_state h name
with_declaration h (declares.Action name) = with_action h name
with_declaration h (declares.Station name address) = with_station h name address
with_declaration h (declares.Operator name station) = with_operator h name station
with_declaration h (declares.Class which name first) = with_class h which name first
with_declaration h (declares.Move class from action to) = with_move h class from action to
with_declaration h (declares.Accept class action) = with_accepted h class action
with_declaration h (declares.Rule which class state target) = with_rule h which class state target
with_declaration h (declares.Domain name station class parent) = with_domain h name station class parent
with_declaration h (declares.Device name domain class) = with_device h name domain class

-- the hierarchy with what the words after a keyword declare
abbrev pub with_words_of : Hierarchy → Keyword → List (List ℕ) → Result Hierarchy Fault
with_words_of h keyword words = do
  declaration ← declaration_of keyword words
  with_declaration h declaration
