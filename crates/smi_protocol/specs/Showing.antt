-- How the states of a station's objects come about, and who is shown them.
use Rattle.std.specs.Prelude.{ℕ, ◌+◌, ◌==◌, ◌&&◌, Bool, true, false, if◌then◌else◌, List, [], ◌∷◌, ◌++◌, map, filter}
use Rattle.std.specs.Prelude.{Option, Some, None}
use Rattle.std.specs.Option.{option_map_or}
use Rattle.std.specs.List.{list_any}
use Rattle.smi_grant.specs.declared.Command.{Command}
use Rattle.smi_grant.specs.declared.Command.TheVariants.{Do}
use Rattle.smi_grant.specs.declared.Holder.TheVariants.{Domain}
use Rattle.smi_grant.specs.declared.Shown.{Shown}
use Rattle.smi_grant.specs.Keeper.{admits}
use Rattle.smi_message.specs.declared.Body.{Body}
use Rattle.smi_message.specs.declared.Body.TheVariants as body
use Rattle.smi_message.specs.Message.{Message}
use Rattle.smi_tree.specs.Hierarchy.{Hierarchy}
use Rattle.smi_tree.specs.Lookups.{accepts, domain_count, children_of, parent_of}
use Rattle.smi_publish.specs.declared.condition.Condition.{Condition}
use Rattle.smi_publish.specs.Published.{changes_at, last_sequence}
use Rattle.smi_publish.specs.Publishing.{reported, acted, evaluated, device_objects}
use Rattle.smi_tree.specs.Roles.{domain_of}
use Rattle.smi_command.specs.Link.{is_held}
use Rattle.smi_watchers.specs.declared.Watcher.{Watcher}
use Rattle.smi_watchers.specs.Watching.{listed}
use Rattle.smi_protocol.specs.Grants.{Grants}
use Rattle.smi_protocol.specs.Messages.{shows}
use Rattle.smi_protocol.specs.Happening.{Happening, Comes, Orders, Reports, Ticks}
use Rattle.smi_protocol.specs.Children.{is_counted}

-- The members of a domain: its devices, and the units of the held children that count.

-- a member and the state that counts
pub record Member : Type 0 where
  pub object : ℕ
  pub state : ℕ

-- an object in a state
abbrev pub member : ℕ → ℕ → Member
member x state = record { object = x; state = state }

-- a child's unit counts for its parent's
abbrev pub is_member : Grants → ℕ → ℕ → Bool
is_member g d x = is_held (g.links (Domain d) x) && is_counted (g.modes x)

-- the devices of a domain
abbrev pub device_members : Hierarchy → (ℕ → Option Condition) → ℕ → List Member
device_members h conditions d = map (λ x. member x (option_map_or (λ c. c.state) (conditions x) 0)) (device_objects h d)

-- a child that was not shown yet is in state 0
abbrev pub child_members : Hierarchy → Grants → (ℕ → Option Shown) → ℕ → List Member
child_members h g shown d = map (λ x. member x (option_map_or (λ s. s.state) (shown x) 0))
    (filter (is_member g d) (children_of h d))

-- devices by number, and then children by number
abbrev pub members_of : Hierarchy → Grants → (ℕ → Option Condition) → (ℕ → Option Shown) → ℕ → List Member
members_of h g conditions shown d = device_members h conditions d ++ child_members h g shown d

-- the same members in the same states
abbrev pub same_members : List Member → List Member → Bool
same_members [] [] = true
same_members (a ∷ more) (b ∷ rest) = a.object == b.object && (a.state == b.state && same_members more rest)
same_members _ _ = false

-- Which domain's members a happening may change.

-- the domain whose members a datagram may change
abbrev pub domain_of_body : Hierarchy → Body → Option ℕ
domain_of_body h (body.Run d who e n c) = Some d
domain_of_body h (body.Tell d r) = parent_of h d
domain_of_body h (body.State x echo v s) = parent_of h x
domain_of_body h _ = None

-- the domain whose members anything that comes may change
abbrev pub domain_of_happening : Hierarchy → Happening → Option ℕ
domain_of_happening h (Comes m) = domain_of_body h m.body
domain_of_happening h (Reports device s) = domain_of h (domain_count h + device)
domain_of_happening h (Orders o what) = None
domain_of_happening h Ticks = None

-- How devices move.

-- an accepted action that runs moves all devices of its domain
abbrev pub moved_by_command : Hierarchy → (ℕ → Option Condition) → ℕ → Command → ℕ → Option Condition
moved_by_command h conditions d (Do a) = if accepts h d a then acted h conditions d a else conditions
moved_by_command h conditions d _ = conditions

-- a command moves devices if it runs
abbrev pub moved_by_body : Hierarchy → Grants → (ℕ → Option Condition) → Body → ℕ → Option Condition
moved_by_body h g conditions (body.Run d who e n c) =
    if admits (g.records d) who e n then moved_by_command h conditions d c else conditions
moved_by_body h g conditions _ = conditions

-- and a reported device is in its state
abbrev pub moved_by : Hierarchy → Grants → (ℕ → Option Condition) → Happening → ℕ → Option Condition
moved_by h g conditions (Comes m) = moved_by_body h g conditions m.body
moved_by h g conditions (Reports device s) = reported conditions (domain_count h + device) s
moved_by h g conditions (Orders o what) = conditions
moved_by h g conditions Ticks = conditions

-- How units follow.

-- the unit is evaluated once, if its members are not what they were
abbrev pub followed : Hierarchy → List Member → List Member → (ℕ → Option Condition) → ℕ → ℕ → Option Condition
followed h old new conditions d =
    if same_members old new then conditions else evaluated h conditions d (map (λ x. x.state) new)

-- Who is shown what.

-- what a domain's objects newly show: devices by number, and then the unit
abbrev pub passed_in : Hierarchy → ℕ → (ℕ → Option Condition) → (ℕ → Option Condition) → Option ℕ → List Shown
passed_in h boot old new None = []
passed_in h boot old new (Some d) = changes_at boot old new (device_objects h d ++ d ∷ [])

-- to everyone who watches, in the order of the list
abbrev pub shown_to_all : Hierarchy → ℕ → List (List Watcher) → Shown → List Message
shown_to_all h number watchers s = map (λ w. shows h number w.station w.echo s) (listed watchers s.object)

-- a station whose object has reached the last sequence stops
abbrev pub is_spent : List Shown → Bool
is_spent passed = list_any (λ s. s.version.sequence == last_sequence) passed
