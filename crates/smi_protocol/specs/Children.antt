-- What a command that runs at a domain does to the domain's links to its children.
use Rattle.std.specs.Prelude.{ℕ, ◌==◌, ◌&&◌, max, Bool, true, false, if◌then◌else◌, List, [], ◌∷◌, map, Result, Ok}
use Rattle.std.specs.Prelude.{Err}
use Rattle.smi_grant.specs.declared.Command.{Command}
use Rattle.smi_grant.specs.declared.Command.TheVariants.{Do, Include, Exclude, Manual, Ignore}
use Rattle.smi_grant.specs.declared.Holder.{Holder}
use Rattle.smi_grant.specs.declared.Holder.TheVariants.{Domain}
use Rattle.smi_grant.specs.Holder.{same_holder}
use Rattle.smi_tree.specs.Hierarchy.{Hierarchy}
use Rattle.smi_tree.specs.Lookups.{is_below, accepts, children_of}
use Rattle.smi_command.specs.declared.Link.{Link}
use Rattle.smi_command.specs.Order.{take_begun, drop_begun, command_issued}
use Rattle.smi_tree.specs.Roles.{is_parent}
use Rattle.smi_command.specs.Link.{is_held}
use Rattle.smi_rows.specs.Stored.{mode_number}
use Rattle.smi_rows.specs.declared.Mode.{Mode}
use Rattle.smi_rows.specs.declared.Mode.TheVariants as mode
use Rattle.smi_protocol.specs.Grants.{Grants}

-- commands are handed on to a child in this mode
abbrev pub is_commanded : Mode → Bool
is_commanded mode.Included = true
is_commanded mode.Manual = false
is_commanded mode.Ignored = true

-- the state of a child in this mode counts
abbrev pub is_counted : Mode → Bool
is_counted mode.Included = true
is_counted mode.Manual = true
is_counted mode.Ignored = false

-- the two modes are one
abbrev pub same_mode : Mode → Mode → Bool
same_mode a b = mode_number a == mode_number b

-- Nothing happens to a child, and a code says why if it is not 0; its link changes; or it comes into a mode.
pub data ChildChange : Type 0 where
  Stays : (code : ℕ) → ChildChange
  Relinked : Link → ChildChange
  ComesInto : Mode → ChildChange

-- its link changes, or stays if it is refused, with this code
abbrev pub relinked_or : ℕ → Result Link ℕ → ChildChange
relinked_or code (Ok l) = Relinked l
relinked_or code (Err refusal) = Stays code

-- a held child that takes commands is handed one on: 7 no number is left, this code if it takes none
abbrev pub handed_on : ℕ → Command → Link → Mode → ChildChange
handed_on code c l m = if is_held l && is_commanded m then relinked_or 7 (command_issued l c) else Stays code

-- a held child comes into another mode: 3 it is in this one already
abbrev pub comes_into : Mode → Mode → ChildChange
comes_into new old = if same_mode new old then Stays 3 else ComesInto new

-- the child itself is what the command is about: 4 it is not held
abbrev pub aimed_at : Command → Link → Mode → ChildChange
aimed_at (Do a) l m = Stays 0
aimed_at (Include t) l m = if is_held l then comes_into mode.Included m else relinked_or 0 (take_begun l)
aimed_at (Exclude t) l m = relinked_or 4 (drop_begun l)
aimed_at (Manual t) l m = if is_held l then comes_into mode.Manual m else Stays 4
aimed_at (Ignore t) l m = if is_held l then comes_into mode.Ignored m else Stays 4

-- a command with a target is about the child itself, or goes on to it on the way down: 6 it goes no further
abbrev pub targeted : Hierarchy → ℕ → Command → ℕ → Link → Mode → ChildChange
targeted h t c x l m =
    if t == x then aimed_at c l m else (if is_below h t x then handed_on 6 c l m else Stays 0)

-- what a command of domain d does to its child x
abbrev pub child_change : Hierarchy → ℕ → Command → ℕ → Link → Mode → ChildChange
child_change h d (Do a) x l m = if accepts h d a then handed_on 0 (Do a) l m else Stays 0
child_change h d (Include t) x l m = targeted h t (Include t) x l m
child_change h d (Exclude t) x l m = targeted h t (Exclude t) x l m
child_change h d (Manual t) x l m = targeted h t (Manual t) x l m
child_change h d (Ignore t) x l m = targeted h t (Ignore t) x l m

-- the same with the link and the mode that a station has
abbrev pub change_of : Hierarchy → Grants → ℕ → Command → ℕ → ChildChange
change_of h g d c x = child_change h d c x (g.links (Domain d) x) (g.modes x)

-- What there is after the command.

-- the link to the child after the command
abbrev pub link_after : ChildChange → Link → Link
link_after (Stays code) l = l
link_after (Relinked new) l = new
link_after (ComesInto m) l = l

-- a child that is held no longer is included when it is held again
abbrev pub mode_after : ChildChange → Mode → Mode
mode_after (Stays code) m = m
mode_after (Relinked new) m = if is_held new then m else mode.Included
mode_after (ComesInto new) m = new

-- the code that comes of one child
abbrev pub code_of : ChildChange → ℕ
code_of (Stays code) = code
code_of (Relinked new) = 0
code_of (ComesInto m) = 0

-- the station's links after the command: those of the domain to its children
abbrev pub links_after : Hierarchy → Grants → ℕ → Command → Holder → ℕ → Link
links_after h g d c who x =
    if is_parent h x d && same_holder who (Domain d) then link_after (change_of h g d c x) (g.links (Domain d) x)
    else g.links who x

-- the modes of the domain's children after the command
abbrev pub modes_after : Hierarchy → Grants → ℕ → Command → ℕ → Mode
modes_after h g d c x = if is_parent h x d then mode_after (change_of h g d c x) (g.modes x) else g.modes x

-- 1 the domain does not accept the action, 2 the target is not below it
abbrev pub code_at_domain : Hierarchy → ℕ → Command → ℕ
code_at_domain h d (Do a) = if accepts h d a then 0 else 1
code_at_domain h d (Include t) = if is_below h t d then 0 else 2
code_at_domain h d (Exclude t) = if is_below h t d then 0 else 2
code_at_domain h d (Manual t) = if is_below h t d then 0 else 2
code_at_domain h d (Ignore t) = if is_below h t d then 0 else 2

-- the largest of these codes, 0 if there is none
abbrev pub largest : List ℕ → ℕ
largest [] = 0
largest (code ∷ more) = max code (largest more)

-- the largest of the codes with which the command begins
abbrev pub own_code : Hierarchy → Grants → ℕ → Command → ℕ
own_code h g d c = largest (code_at_domain h d c ∷ map (λ x. code_of (change_of h g d c x)) (children_of h d))
