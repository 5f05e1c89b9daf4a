-- How a tree reads: what does not change while a program runs.
use Rattle.std.specs.Prelude.{ℕ, ◌++◌, List, Option, Some, None, option_map, codes}
use Rattle.std.specs.Fmt.{decimal}
use Rattle.smi_tree.specs.Hierarchy.{Hierarchy, entry}
use Rattle.smi_tree.specs.Lookups.{accepts, action_count, device_count, domain_count, operator_count, parent_of}
use Rattle.smi_tree.specs.Lookups.{state_count, station_count, station_of}
use Rattle.smi_schedule.specs.TraceWords.{action_word, device_word, domain_word, operator_word, state_word}
use Rattle.smi_schedule.specs.TraceWords.{station_word}
use Rattle.smi_web.specs.declared.tree_json.Kind.{Kind}
use Rattle.smi_web.specs.declared.tree_json.Kind.TheVariants as kind
use Rattle.smi_web.specs.Json.{flag, listed, quoted}

-- null if there is none
abbrev pub or_null : Option (List ℕ) → List ℕ
or_null (Some text) = text
or_null None = codes "null"

abbrev pub state_name_text : Hierarchy → ℕ → List ℕ
state_name_text h s = quoted (state_word h s)

abbrev pub station_name_text : Hierarchy → ℕ → List ℕ
station_name_text h s = quoted (station_word h s)

-- an operator and its station
abbrev pub operator_shape : Hierarchy → ℕ → List ℕ
operator_shape h o =
    codes "{\"name\":" ++ quoted (operator_word h o)
    ++ codes ",\"station\":" ++ or_null (option_map (λ s. quoted (station_word h s)) (entry h.homes o)) ++ codes "}"

abbrev pub action_name_text : Hierarchy → ℕ → List ℕ
action_name_text h a = quoted (action_word h a)

-- whether a domain accepts an action
abbrev pub accept_text : Hierarchy → ℕ → ℕ → List ℕ
accept_text h d a = flag (accepts h d a)

-- whether a domain accepts each action, by number
abbrev pub accepted_text : Hierarchy → ℕ → List ℕ
accepted_text h d = codes ",\"accepts\":[" ++ listed (codes ",") (accept_text h d) (action_count h)

-- a domain, the station that keeps it, and the domain above it
unfoldable pub place_text : Hierarchy → ℕ → List ℕ
place_text h d =
    codes "{\"name\":" ++ quoted (domain_word h d)
    ++ codes ",\"station\":" ++ or_null (option_map (λ s. quoted (station_word h s)) (station_of h d))
    ++ codes ",\"parent\":" ++ or_null (option_map (λ p. quoted (domain_word h p)) (parent_of h d))

-- a domain, its station and parent, and the actions that it accepts
abbrev pub domain_shape : Hierarchy → ℕ → List ℕ
domain_shape h d = place_text h d ++ accepted_text h d ++ codes "]}"

-- a device and its domain
abbrev pub device_shape : Hierarchy → ℕ → List ℕ
device_shape h d =
    codes "{\"name\":" ++ quoted (device_word h d)
    ++ codes ",\"domain\":" ++ or_null (option_map (λ row. quoted (domain_word h row.domain)) (entry h.devices d))
    ++ codes "}"

-- what a tree has of each kind, by number
abbrev pub kind_text : Hierarchy → Kind → ℕ → List ℕ
kind_text h kind.State n = state_name_text h n
kind_text h kind.Action n = action_name_text h n
kind_text h kind.Station n = station_name_text h n
kind_text h kind.Operator n = operator_shape h n
kind_text h kind.Domain n = domain_shape h n
kind_text h kind.Device n = device_shape h n

-- what comes before the list of a kind, and how many there are
abbrev pub before_text : Kind → List ℕ
before_text kind.State = codes ",\"states\":["
before_text kind.Action = codes "],\"actions\":["
before_text kind.Station = codes "],\"stations\":["
before_text kind.Operator = codes "],\"operators\":["
before_text kind.Domain = codes "],\"domains\":["
before_text kind.Device = codes "],\"devices\":["

abbrev pub kind_count : Hierarchy → Kind → ℕ
kind_count h kind.State = state_count h
kind_count h kind.Action = action_count h
kind_count h kind.Station = station_count h
kind_count h kind.Operator = operator_count h
kind_count h kind.Domain = domain_count h
kind_count h kind.Device = device_count h

-- all of a kind
unfoldable pub kinds_text : Hierarchy → Kind → List ℕ
kinds_text h kind = before_text kind ++ listed (codes ",") (kind_text h kind) (kind_count h kind)

abbrev pub all_kinds_text : Hierarchy → List ℕ
all_kinds_text h =
    kinds_text h kind.State
    ++ kinds_text h kind.Action
    ++ kinds_text h kind.Station
    ++ kinds_text h kind.Operator
    ++ kinds_text h kind.Domain
    ++ kinds_text h kind.Device

-- the version of the program, a tree, and all that it has
abbrev pub tree_text : Hierarchy → List ℕ
tree_text h = codes "{\"version\":\"0.9\",\"tree\":" ++ decimal h.number ++ all_kinds_text h ++ codes "]}\n"
