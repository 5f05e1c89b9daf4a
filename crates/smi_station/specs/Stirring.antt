-- What comes of an event for the states of a station's objects, in the words of what the station has at hand: a
-- domain, its members before, and the action that runs there.
use Rattle.std.specs.Prelude.{ℕ, Bool, true, false, if◌then◌else◌, List, Option, Some, None}
use Rattle.smi_station_grants.specs.Change.{runs}
use Rattle.smi_station_grants.specs.declared.change.Change.{Change}
use Rattle.std.specs.List.{flat_map}
use Rattle.smi_grant.specs.Keeper.{admits}
use Rattle.smi_grant.specs.declared.Command.{Command}
use Rattle.smi_grant.specs.declared.Command.TheVariants.{Do}
use Rattle.smi_message.specs.Message.{Message}
use Rattle.smi_message.specs.declared.Body.{Body}
use Rattle.smi_message.specs.declared.Body.TheVariants as body
use Rattle.smi_tree.specs.Hierarchy.{Hierarchy}
use Rattle.smi_tree.specs.Lookups.{accepts}
use Rattle.smi_publish.specs.declared.condition.Condition.{Condition}
use Rattle.smi_publish.specs.Publishing.{acted}
use Rattle.smi_protocol.specs.Grants.{Grants}
use Rattle.smi_protocol.specs.Display.{Display}
use Rattle.smi_protocol.specs.Showing.{members_of, passed_in, shown_to_all}
use Rattle.smi_station_display.specs.Members.{Listed, followed_by, listed_of, nobody}

-- the members of the domain as they are, nobody if there is no domain
abbrev pub members_in : Hierarchy → Grants → Display → Option ℕ → Listed
members_in h g s None = nobody
members_in h g s (Some d) = listed_of (members_of h g s.conditions s.shown d)

-- the action by which a command moves the devices of its domain
abbrev pub action_by : Hierarchy → ℕ → Command → Option ℕ
action_by h d (Do a) = if accepts h d a then Some a else None
action_by h d _ = None

-- it moves them if it runs
abbrev pub action_of : Hierarchy → Grants → Body → Option ℕ
action_of h g (body.Run d who e n c) = if admits (g.records d) who e n then action_by h d c else None
action_of h g _ = None

-- the action of the command that a change runs
abbrev pub action_run : Hierarchy → Option (ℕ × Command) → Option ℕ
action_run h None = None
action_run h (Some (d, c)) = action_by h d c

abbrev pub action_in : Hierarchy → Change → Option ℕ
action_in h c = action_run h (runs c)

-- the domain's devices move
abbrev pub acted_by : Hierarchy → (ℕ → Option Condition) → ℕ → Option ℕ → ℕ → Option Condition
acted_by h conditions d None = conditions
acted_by h conditions d (Some a) = acted h conditions d a

-- and then its unit follows the members, which were these before
abbrev pub stirred_in : Hierarchy → Grants → Display → Listed → (ℕ → Option Condition) → ℕ → ℕ → Option Condition
stirred_in h g s before moved d = followed_by h before (listed_of (members_of h g moved s.shown d)) moved d

-- the states of the objects then
abbrev pub stirred : Hierarchy → Grants → Display → Listed → Option ℕ → Option ℕ → ℕ → Option Condition
stirred h g s before action None = s.conditions
stirred h g s before action (Some d) = stirred_in h g s before (acted_by h s.conditions d action) d

-- the watchers are sent what is newly shown
abbrev pub shown_anew : Hierarchy → ℕ → ℕ → Display → (ℕ → Option Condition) → Option ℕ → List Message
shown_anew h number boot s new domain = flat_map (shown_to_all h number s.watchers)
    (passed_in h boot s.conditions new domain)

-- a watch, which alone may want memory
abbrev pub is_watch : Body → Bool
is_watch (body.Watch x echo) = true
is_watch _ = false
