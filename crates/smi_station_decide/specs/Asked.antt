-- Which children may be asked for what their links are due.
use Rattle.std.specs.Prelude.{ℕ, ◌≡◌, true, IfSome}
use Rattle.smi_command.specs.declared.Link.{Link}
use Rattle.smi_command.specs.Link.{due_of}
use Rattle.smi_tree.specs.Hierarchy.{Hierarchy}
use Rattle.smi_tree.specs.Lawful.{IsBetween}
use Rattle.smi_tree.specs.Lookups.{domain_count}
use Rattle.smi_station_grants.specs.declared.commanded.ChildChange.{ChildChange}
use Rattle.smi_station_grants.specs.declared.commanded.ChildChange.TheVariants as change
use Rattle.smi_station_grants.specs.declared.commanded.CommandedChild.{CommandedChild}
use Rattle.smi_station_output.specs.Out.{is_due}

-- all that the link is due can be said
abbrev pub CanBeSaid : Link → Type 0
CanBeSaid l = (i : ℕ) → IfSome (due_of l i) (λ due. is_due due ≡ true)

abbrev pub IfRelinked : ChildChange → (Link → Type 0) → Type 0
IfRelinked (change.Stays why) P = Unit {0}
IfRelinked (change.Relinked l) P = P l
IfRelinked (change.ComesInto m) P = Unit {0}

-- the tree has the child, and if its link has changed, what it is due can be said
pub record MayBeAsked (h : Hierarchy) (x : CommandedChild) : Type 0 where
  pub child : IsBetween 1 (domain_count h) x.child
  pub link : IfRelinked x.change CanBeSaid
