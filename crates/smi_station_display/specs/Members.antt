-- The members of a domain as a station lists them: their objects, and beside them their states.
use Rattle.std.specs.Prelude.{ℕ, ◌≡◌, ◌≤◌, ◌==◌, ◌&&◌, Bool, true, false, if◌then◌else◌, List, [], ◌∷◌, ◌++◌, length}
use Rattle.std.specs.Prelude.{map, Option}
use Rattle.smi_station_display.specs.declared.members.TheConstants.{MOST_MEMBERS}
use Rattle.smi_tree.specs.Hierarchy.{Hierarchy}
use Rattle.smi_publish.specs.declared.condition.Condition.{Condition}
use Rattle.smi_publish.specs.Publishing.{evaluated}
use Rattle.smi_protocol.specs.Showing.{Member}

pub record Listed : Type 0 where
  pub objects : List ℕ
  pub states : List ℕ

-- how many members a domain may have: its devices and its children
abbrev pub most_members : ℕ
most_members = MOST_MEMBERS

-- a number of places, of which the first hold something
pub record IsStored (places : List ℕ) (count : ℕ) : Type 0 where
  pub all : length places ≡ most_members
  pub within : count ≤ most_members

-- one more member
abbrev pub one_more : Listed → Member → Listed
one_more m x = record { objects = m.objects ++ x.object ∷ []; states = m.states ++ x.state ∷ [] }

-- and one after the other
abbrev pub added : Listed → List Member → Listed
added m [] = m
added m (x ∷ more) = added (one_more m x) more

-- nobody
abbrev pub nobody : Listed
nobody = record { objects = []; states = [] }

-- members, listed
abbrev pub listed_of : List Member → Listed
listed_of ms = record { objects = map (λ (m : Member). m.object) ms; states = map (λ (m : Member). m.state) ms }

-- the same numbers
abbrev pub same_numbers : List ℕ → List ℕ → Bool
same_numbers [] [] = true
same_numbers (a ∷ more) (b ∷ rest) = a == b && same_numbers more rest
same_numbers _ _ = false

-- the same members in the same states
abbrev pub are_same : Listed → Listed → Bool
are_same a b = same_numbers a.objects b.objects && same_numbers a.states b.states

-- the unit is evaluated once, if its members are not what they were
abbrev pub followed_by : Hierarchy → Listed → Listed → (ℕ → Option Condition) → ℕ → ℕ → Option Condition
followed_by h old new conditions d = if are_same old new then conditions else evaluated h conditions d new.states
