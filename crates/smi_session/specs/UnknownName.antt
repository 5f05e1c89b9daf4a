-- Which name of a line is unknown, and what is said of it.
use Rattle.std.specs.Prelude.{ℕ, ◌==◌, ◌||◌, Bool, false, List, [], ◌∷◌, codes, Option, Some, None, is_some}
use Rattle.std.specs.Prelude.{if◌then◌else◌}
use Rattle.std.specs.List.{list_any}
use Rattle.std.specs.Str.{bytes_eq}
use Rattle.smi_tree.specs.Hierarchy.{Hierarchy}
use Rattle.smi_tree.specs.Lookups.{object_named}
use Rattle.smi_tree.specs.Name.{number_of}
use Rattle.smi_session.specs.Line.{kind_of}
use Rattle.smi_session.specs.Query.{numbers_in, query_named}
use Rattle.smi_session.specs.declared.line.LineKind.{LineKind}
use Rattle.smi_session.specs.declared.line.LineKind.TheVariants as line
use Rattle.smi_session.specs.declared.query.Query.{Query}
use Rattle.smi_session.specs.declared.query.Query.TheVariants.{Counts, UnderWay, States, Follow, Actions, Modes}
use Rattle.smi_session.specs.declared.query.Query.TheVariants.{Version, Help}
use Rattle.smi_session.specs.declared.unknown_name.NameKind.{NameKind}
use Rattle.smi_session.specs.declared.unknown_name.NameKind.TheVariants as kind

-- what is said of a name that is none
abbrev pub message : NameKind → List ℕ
message kind.Operator = codes "is no operator of this station"
message kind.Domain = codes "is no domain of the tree"
message kind.Device = codes "is no device of the tree"
message kind.Object = codes "is no domain or device of the tree"
message kind.Action = codes "is no action of the tree"
message kind.State = codes "is no state of the tree"

abbrev pub is_among : List ℕ → Option ℕ → Bool
is_among operators None = false
is_among operators (Some operator) = list_any (λ o. o == operator) operators

-- a name is one of these
abbrev pub has : Hierarchy → List ℕ → NameKind → List ℕ → Bool
has h operators kind.Operator name = is_among operators (number_of h.operator_names name)
has h operators kind.Domain name = is_some (number_of h.domain_names name)
has h operators kind.Device name = is_some (number_of h.device_names name)
has h operators kind.Object name = is_some (object_named h name)
has h operators kind.Action name = is_some (number_of h.action_names name)
has h operators kind.State name = is_some (number_of h.state_names name)

-- what the names after the verb of an order stand for
abbrev pub kinds_of_order : List ℕ → Option NameKind × Option NameKind
kinds_of_order verb =
    if bytes_eq verb (codes "take") || bytes_eq verb (codes "drop") || bytes_eq verb (codes "ask")
    then (Some kind.Domain, None)
    else (if bytes_eq verb (codes "include") || bytes_eq verb (codes "exclude") || bytes_eq verb (codes "manual")
    || bytes_eq verb (codes "ignore")
    then (Some kind.Domain, Some kind.Domain)
    else (if bytes_eq verb (codes "watch") || bytes_eq verb (codes "unwatch") then (Some kind.Object, None)
    else (if bytes_eq verb (codes "do") then (Some kind.Domain, Some kind.Action)
    else (None, None))))

-- a word is the verb of an order
abbrev pub is_verb : List ℕ → Bool
is_verb word = is_some (kinds_of_order word).0

-- the first word is no such name
abbrev pub unknown_first : Hierarchy → List ℕ → Option NameKind → List (List ℕ) → Option (List ℕ × List ℕ)
unknown_first h operators None names = None
unknown_first h operators (Some k) [] = None
unknown_first h operators (Some k) (name ∷ names) =
    if has h operators k name then None else Some (name, message k)

abbrev pub unknown_second : Hierarchy → List ℕ → Option NameKind → List (List ℕ) → Option (List ℕ × List ℕ)
unknown_second h operators k [] = None
unknown_second h operators k (name ∷ names) = unknown_first h operators k names

-- what is unknown, or else the other
abbrev pub or_else : Option (List ℕ × List ℕ) → Option (List ℕ × List ℕ) → Option (List ℕ × List ℕ)
or_else (Some unknown) other = Some unknown
or_else None other = other

abbrev pub unknown_of_two : Hierarchy → List ℕ → Option NameKind × Option NameKind → List (List ℕ)
    → Option (List ℕ × List ℕ)
unknown_of_two h operators kinds names =
    or_else (unknown_first h operators kinds.0 names) (unknown_second h operators kinds.1 names)

-- an order that has a verb names its operator, and then what follows the verb
abbrev pub unknown_of_order : Hierarchy → List ℕ → List (List ℕ) → Option (List ℕ × List ℕ)
unknown_of_order h operators [] = None
unknown_of_order h operators (operator ∷ []) = None
unknown_of_order h operators (operator ∷ verb ∷ names) =
    or_else (unknown_first h operators (Some kind.Operator) (operator ∷ verb ∷ names))
    (unknown_of_two h operators (kinds_of_order verb) names)

-- the first of the words that is no such name
abbrev pub unknown_among : Hierarchy → List ℕ → NameKind → List (List ℕ) → Option (List ℕ × List ℕ)
unknown_among h operators k [] = None
unknown_among h operators k (name ∷ names) =
    if has h operators k name then unknown_among h operators k names else Some (name, message k)

abbrev pub unknown_of_query : Hierarchy → List ℕ → Option Query → List (List ℕ) → Option (List ℕ × List ℕ)
unknown_of_query h operators None names = None
unknown_of_query h operators (Some Follow) names = unknown_among h operators kind.Object names
unknown_of_query h operators (Some Actions) names = unknown_among h operators kind.Device (numbers_in names).1
unknown_of_query h operators (Some Counts) names = None
unknown_of_query h operators (Some UnderWay) names = None
unknown_of_query h operators (Some States) names = None
unknown_of_query h operators (Some Modes) names = None
unknown_of_query h operators (Some Version) names = None
unknown_of_query h operators (Some Help) names = None

abbrev pub unknown_of_kind : Hierarchy → List ℕ → List ℕ → Option LineKind → List (List ℕ) → Option (List ℕ × List ℕ)
unknown_of_kind h operators first (Some line.Order) names = unknown_of_order h operators names
unknown_of_kind h operators first (Some line.Report) names =
    unknown_of_two h operators (Some kind.Device, Some kind.State) names
unknown_of_kind h operators first (Some line.Will) names =
    unknown_of_two h operators (Some kind.Device, Some kind.State) names
unknown_of_kind h operators first (Some line.Show) names = unknown_among h operators kind.Object names
unknown_of_kind h operators first (Some line.Withdraw) names = None
unknown_of_kind h operators first None names = unknown_of_query h operators (query_named first) names

-- the first unknown name of a line, and what is said of it
abbrev pub unknown_in : Hierarchy → List ℕ → List (List ℕ) → Option (List ℕ × List ℕ)
unknown_in h operators [] = None
unknown_in h operators (first ∷ names) = unknown_of_kind h operators first (kind_of first) names
