-- Which of the values that a row names a tree has.
use Rattle.std.specs.Prelude.{ℕ, ◌&&◌, nat_le, Bool, List, []}
use Rattle.std.specs.List.{list_all}
use Rattle.smi_base.specs.Between.{is_between}
use Rattle.smi_grant.specs.declared.Command.{Command}
use Rattle.smi_grant.specs.declared.Holder.TheVariants.{Operator}
use Rattle.smi_command.specs.declared.Link.{Link}
use Rattle.smi_command.specs.declared.Link.TheVariants.{Out, Taking, Held, Dropping}
use Rattle.smi_tree.specs.Hierarchy.{Hierarchy}
use Rattle.smi_tree.specs.Lookups.{station_count, domain_count}
use Rattle.smi_tree.specs.Roles.{holder_station, is_command_of, is_holder_of, is_keeper, is_number, is_parent}
use Rattle.smi_rows.specs.declared.key.Key.{Key}
use Rattle.smi_rows.specs.declared.row.StoredLink.{StoredLink}
use Rattle.smi_rows.specs.declared.row.Row.{Row}
use Rattle.smi_rows.specs.declared.row.Row.TheVariants as row

abbrev pub pending_of : Link → List Command
pending_of (Out k) = []
pending_of (Taking e) = []
pending_of (Held e n p) = p
pending_of (Dropping e) = []

abbrev pub are_commands_of : Hierarchy → Link → Bool
are_commands_of h l = list_all (is_command_of h) (pending_of l)

-- a link to a child
abbrev pub is_child_link : Hierarchy → ℕ → StoredLink → Bool
is_child_link h domain x = is_parent h x.domain domain && are_commands_of h x.link

-- a link to a domain of the tree
abbrev pub is_tree_link : Hierarchy → StoredLink → Bool
is_tree_link h x = nat_le x.domain (domain_count h) && are_commands_of h x.link

abbrev pub are_child_links : Hierarchy → ℕ → List StoredLink → Bool
are_child_links h domain links = list_all (is_child_link h domain) links

abbrev pub are_tree_links : Hierarchy → List StoredLink → Bool
are_tree_links h links = list_all (is_tree_link h) links

-- the tree has what the row of this key names
abbrev pub is_known : Hierarchy → Key → Row → Bool
is_known h k (row.Boot boot) = is_between 1 (station_count h) k.station
is_known h k (row.Domain d) =
    is_keeper h k.station k.domain && (is_holder_of h k.domain d.standing.holder && are_child_links h k.domain d.links)
is_known h k (row.Operator links) =
    is_number (holder_station h (Operator k.operator)) k.station && are_tree_links h links
