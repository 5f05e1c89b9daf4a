-- What a station publishes of its objects.
use Rattle.std.specs.Prelude.{ℕ, ◌≡◌, ◌<◌, ◌≤◌, ◌==◌, not, if◌then◌else◌, Bool, false, List, length, Option, Some}
use Rattle.std.specs.Prelude.{None, option_and_then, option_map, IfSome}
use Rattle.std.specs.List.{filter_map}
use Rattle.smi_base.specs.declared.numbers.TheConstants.{LAST_SEQUENCE}
use Rattle.smi_grant.specs.declared.state.Shown.{Shown}
use Rattle.smi_tree.specs.Hierarchy.{entry}
use Rattle.smi_publish.specs.declared.changes.TheConstants.{MOST_CHANGES}
use Rattle.smi_publish.specs.declared.condition.Condition.{Condition}

abbrev pub condition : ℕ → ℕ → Condition
condition state sequence = record { state = state; sequence = sequence }

-- the boot of the station, and the conditions of its objects in a table by their numbers from 1
pub record Published : Type 0 where
  pub boot : ℕ
  pub table : List (Option Condition)

abbrev pub condition_in : List (Option Condition) → ℕ → Option Condition
condition_in table object = option_and_then (λ c. c) (entry table object)

abbrev pub conditions_of : Published → ℕ → Option Condition
conditions_of p object = condition_in p.table object

-- the version and the state of an object
abbrev pub shown : ℕ → ℕ → Condition → Shown
shown boot object c = record {
  object = object;
  version = record { boot = boot; sequence = c.sequence };
  state = c.state;
}

-- what an object shows, if it is kept here
abbrev pub shown_at : ℕ → (ℕ → Option Condition) → ℕ → Option Shown
shown_at boot conditions object = option_map (shown boot object) (conditions object)

-- the largest sequence
abbrev pub last_sequence : ℕ
last_sequence = LAST_SEQUENCE

-- the object may change once more
abbrev pub HasRoom : (ℕ → Option Condition) → ℕ → Type 0
HasRoom conditions object = IfSome (conditions object) (λ c. c.sequence < last_sequence)

-- whether an object's state is another one
abbrev pub differs : Option Condition → Option Condition → Bool
differs (Some a) (Some b) = not (a.state == b.state)
differs (Some a) None = false
differs None b = false

-- what an object newly shows, if its state has changed
abbrev pub change_at : ℕ → (ℕ → Option Condition) → (ℕ → Option Condition) → ℕ → Option Shown
change_at boot old new object = if differs (old object) (new object) then shown_at boot new object else None

-- what objects newly show, in this order
abbrev pub changes_at : ℕ → (ℕ → Option Condition) → (ℕ → Option Condition) → List ℕ → List Shown
changes_at boot old new objects = filter_map (change_at boot old new) objects

-- how many objects change in one step at most
abbrev pub most_changes : ℕ
most_changes = MOST_CHANGES

-- a number of places, of which the first hold something
pub record IsStored (places : List Shown) (count : ℕ) : Type 0 where
  pub all : length places ≡ most_changes
  pub within : count ≤ most_changes
