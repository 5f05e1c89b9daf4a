-- What a tree file declares: names by number, and what each number stands for.
use Rattle.std.specs.Prelude.{ℕ, ◌≡◌, ◌<◌, ◌≤◌, suc, zero, ◌-◌, ◌==◌, ◌&&◌, Bool, false, List, [], ◌∷◌, length, find}
use Rattle.std.specs.Prelude.{slice_get, Option, Some, None, option_and_then, if◌then◌else◌}
use Rattle.std.specs.Option.{option_map_or}
use Rattle.smi_base.specs.declared.trees.TheConstants.{MOST_LEVELS}
use Rattle.smi_tree.specs.declared.number.Address.{Address}
use Rattle.smi_tree.specs.declared.row.Move.{Move}
use Rattle.smi_tree.specs.declared.row.Domain.{Domain}
use Rattle.smi_tree.specs.declared.row.Device.{Device}
use Rattle.smi_tree.specs.ClassTable.{ClassTable}

-- Names and rows are numbered from 1. A station has its address, an operator its station.
pub record Hierarchy : Type 0 where
  pub number : ℕ
  pub state_names : List (List ℕ)
  pub action_names : List (List ℕ)
  pub station_names : List (List ℕ)
  pub addresses : List Address
  pub operator_names : List (List ℕ)
  pub homes : List ℕ
  pub class_names : List (List ℕ)
  pub classes : List ClassTable
  pub moves : List Move
  pub domain_names : List (List ℕ)
  pub domains : List Domain
  pub device_names : List (List ℕ)
  pub devices : List Device

-- the row of a number
abbrev pub entry : {X : Type 0} → List X → ℕ → Option X
entry rows number = if number == 0 then None else slice_get rows (number - 1)

-- the row of a number, as an index takes it
pub record IsEntry {X : Type 0} (rows : List X) (number : ℕ) (row : X) : Type 0 where
  pub positive : 0 < number
  pub within : number ≤ length rows
  pub read : slice_get rows (number - 1) ≡ Some row

-- the domain above a domain
abbrev pub parent_in : List Domain → ℕ → Option ℕ
parent_in domains domain = option_and_then (λ row. row.parent) (entry domains domain)

-- the domains above a domain, the nearest first, at most this many
unfoldable pub ancestors : ℕ → List Domain → ℕ → List ℕ
ancestors zero domains domain = []
ancestors (suc more) domains domain =
    option_map_or (λ parent. parent ∷ ancestors more domains parent) (parent_in domains domain) []

-- how deep a domain lies: a root at 1
abbrev pub depth_in : List Domain → ℕ → ℕ
depth_in domains domain = suc (length (ancestors MOST_LEVELS domains domain))

abbrev pub is_child_of : ℕ → Domain → Bool
is_child_of parent row = option_map_or (λ above. above == parent) row.parent false

abbrev pub is_device_of : ℕ → Device → Bool
is_device_of domain row = row.domain == domain

abbrev pub is_move_at : ℕ → ℕ → ℕ → Move → Bool
is_move_at class state action move = move.class == class && (move.from == state && move.action == action)

-- where a class moves to from a state by an action, if there is a row
abbrev pub move_in : List Move → ℕ → ℕ → ℕ → Option Move
move_in moves class state action = find (is_move_at class state action) moves

-- a hierarchy of which nothing is declared yet, not even its number
abbrev pub undeclared : Hierarchy
undeclared = record {
  number = 0;
  state_names = [];
  action_names = [];
  station_names = [];
  addresses = [];
  operator_names = [];
  homes = [];
  class_names = [];
  classes = [];
  moves = [];
  domain_names = [];
  domains = [];
  device_names = [];
  devices = [];
}
