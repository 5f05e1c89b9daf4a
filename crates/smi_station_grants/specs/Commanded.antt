-- What a command does to the children of its domain, worked out before anything changes.
use Rattle.std.specs.Prelude.{ℕ, ◌≡◌, ◌==◌, List, map, All, Option, option_map}
use Rattle.std.specs.List.{find}
use Rattle.smi_grant.specs.declared.Command.{Command}
use Rattle.smi_tree.specs.Hierarchy.{Hierarchy}
use Rattle.smi_tree.specs.Lookups.{children_of}
use Rattle.smi_protocol.specs.Grants.{Grants}
use Rattle.smi_protocol.specs.Children.{change_of}
use Rattle.smi_station_grants.specs.Children.{meant}
use Rattle.smi_station_grants.specs.declared.commanded.ChildChange.{ChildChange}
use Rattle.smi_station_grants.specs.declared.commanded.CommandedChild.{CommandedChild}

-- a command of the domain does that to the child
abbrev pub IsSo : Hierarchy → Grants → ℕ → Command → CommandedChild → Type 0
IsSo h g d c x = meant x.change ≡ change_of h g d c x.child

-- and that to each child of it, in their order
pub record AreSo (h : Hierarchy) (g : Grants) (d : ℕ) (c : Command) (xs : List CommandedChild) : Type 0 where
  pub children : map (λ x. x.child) xs ≡ children_of h d
  pub each : All (IsSo h g d c) xs

-- what it does to one of them
abbrev pub change_for : List CommandedChild → ℕ → Option ChildChange
change_for xs x = option_map (λ (y : CommandedChild). y.change) (find (λ (y : CommandedChild). y.child == x) xs)
