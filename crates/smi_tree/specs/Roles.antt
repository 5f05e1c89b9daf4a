-- Who keeps, who may hold and who is above what, by the tree.
use Rattle.std.specs.Prelude.{ℕ, ◌+◌, ◌-◌, ◌==◌, nat_le, if◌then◌else◌, Bool, true, false, Option, Some, None}
use Rattle.std.specs.Prelude.{option_and_then, option_map}
use Rattle.std.specs.Option.{option_map_or}
use Rattle.smi_base.specs.Between.{is_between}
use Rattle.smi_grant.specs.declared.Command.{Command}
use Rattle.smi_grant.specs.declared.Command.TheVariants.{Do, Include, Exclude, Manual, Ignore}
use Rattle.smi_grant.specs.declared.Holder.{Holder}
use Rattle.smi_grant.specs.declared.Holder.TheVariants.{Free, Operator, Domain}
use Rattle.smi_tree.specs.Hierarchy.{Hierarchy, entry}
use Rattle.smi_tree.specs.Lookups.{action_count, operator_count, domain_count, device_count, parent_of, station_of}
use Rattle.smi_tree.specs.Lookups.{operator_station_of}

-- there is a number, and it is this one
abbrev pub is_number : Option ℕ → ℕ → Bool
is_number o n = option_map_or (λ m. m == n) o false

-- the tree has the domain
abbrev pub has_domain : Hierarchy → ℕ → Bool
has_domain h d = is_between 1 (domain_count h) d

-- the tree has the object
abbrev pub has_object : Hierarchy → ℕ → Bool
has_object h x = is_between 1 (domain_count h + device_count h) x

-- Who keeps what.

-- the station keeps the domain
abbrev pub is_keeper : Hierarchy → ℕ → ℕ → Bool
is_keeper h station d = is_number (station_of h d) station

-- the domain that an object is in: a unit is in its own
abbrev pub domain_of : Hierarchy → ℕ → Option ℕ
domain_of h object =
    if nat_le object (domain_count h) then Some object
    else option_map (λ row. row.domain) (entry h.devices (object - domain_count h))

-- the station that keeps an object is that of its domain
abbrev pub keeper_of : Hierarchy → ℕ → Option ℕ
keeper_of h object = option_and_then (station_of h) (domain_of h object)

-- the station keeps the object
abbrev pub is_kept_by : Hierarchy → ℕ → ℕ → Bool
is_kept_by h station object = option_map_or (λ keeper. keeper == station) (keeper_of h object) false

-- Who is above what, and who may hold it.

-- the one domain is above the other
abbrev pub is_parent : Hierarchy → ℕ → ℕ → Bool
is_parent h domain above = is_number (parent_of h domain) above

-- the unit of a child of a domain that the station keeps
abbrev pub is_child_unit : Hierarchy → ℕ → ℕ → Bool
is_child_unit h station x = is_keeper_of_some h station (parent_of h x)
  where
    is_keeper_of_some : Hierarchy → ℕ → Option ℕ → Bool
    is_keeper_of_some h station None = false
    is_keeper_of_some h station (Some p) = is_keeper h station p

-- nobody, an operator of the tree, or the domain's parent
abbrev pub is_holder_of : Hierarchy → ℕ → Holder → Bool
is_holder_of h domain Free = true
is_holder_of h domain (Operator o) = nat_le o (operator_count h)
is_holder_of h domain (Domain above) = is_parent h domain above

-- the station of a holder
abbrev pub holder_station : Hierarchy → Holder → Option ℕ
holder_station h Free = None
holder_station h (Operator o) = operator_station_of h o
holder_station h (Domain p) = station_of h p

-- any action and any domain of the tree may be a command's argument
abbrev pub is_command_of : Hierarchy → Command → Bool
is_command_of h (Do a) = nat_le a (action_count h)
is_command_of h (Include t) = nat_le t (domain_count h)
is_command_of h (Exclude t) = nat_le t (domain_count h)
is_command_of h (Manual t) = nat_le t (domain_count h)
is_command_of h (Ignore t) = nat_le t (domain_count h)
