-- What a command does to children, as the code has it.
use Rattle.std.specs.Prelude.{ℕ, ◌==◌, ◌&&◌, if◌then◌else◌, List, Bool}
use Rattle.std.specs.List.{list_any}
use Rattle.smi_grant.specs.declared.Command.{Command}
use Rattle.smi_grant.specs.declared.Holder.TheVariants.{Domain}
use Rattle.smi_grant.specs.Holder.{same_holder}
use Rattle.smi_grant.specs.Outcome.{outcome_code}
use Rattle.smi_command.specs.declared.Link.{Link}
use Rattle.smi_tree.specs.Hierarchy.{Hierarchy}
use Rattle.smi_rows.specs.declared.Mode.{Mode}
use Rattle.smi_protocol.specs.Grants.{Grants, put, with_link}
use Rattle.smi_protocol.specs.Children as children
use Rattle.smi_station_grants.specs.declared.commanded.ChildChange.{ChildChange}
use Rattle.smi_station_grants.specs.declared.commanded.ChildChange.TheVariants as change

-- the same in the words of the definitions
abbrev pub meant : ChildChange → children.ChildChange
meant (change.Stays why) = children.Stays (outcome_code why)
meant (change.Relinked l) = children.Relinked l
meant (change.ComesInto m) = children.ComesInto m

-- another link and mode of a child
abbrev pub with_child : Grants → ℕ → ℕ → Link → Mode → Grants
with_child g d x l m = record (with_link g (Domain d) x l) { modes = put g.modes x m }

abbrev pub is_among : List ℕ → ℕ → Bool
is_among xs x = list_any (λ y. y == x) xs

-- a command has reached these children
abbrev pub commanded_among : Hierarchy → Grants → ℕ → Command → List ℕ → Grants
commanded_among h g d c xs = record g {
  links = λ who x. if is_among xs x && same_holder who (Domain d)
      then children.link_after (children.change_of h g d c x) (g.links (Domain d) x) else g.links who x;
  modes = λ x. if is_among xs x then children.mode_after (children.change_of h g d c x) (g.modes x) else g.modes x;
}

-- a command has reached one child
abbrev pub commanded_child : Hierarchy → Grants → ℕ → Command → ℕ → Grants
commanded_child h g d c x =
    with_child g d x (children.link_after (children.change_of h g d c x) (g.links (Domain d) x))
    (children.mode_after (children.change_of h g d c x) (g.modes x))
