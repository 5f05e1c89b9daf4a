-- Which told states a station takes for what an object shows.
use Rattle.std.specs.Prelude.{ℕ, ◌-◌, ◌==◌, ◌&&◌, ◌||◌, nat_lt, Bool, true, if◌then◌else◌, List, slice_get, Option}
use Rattle.std.specs.Prelude.{Some, None, option_and_then}
use Rattle.std.specs.Option.{option_map_or}
use Rattle.smi_grant.specs.declared.state.Version.{Version}
use Rattle.smi_grant.specs.declared.state.Shown.{Shown}
use Rattle.smi_view.specs.declared.view.Acceptance.{Acceptance}
use Rattle.smi_view.specs.declared.view.Acceptance.TheVariants.{Accepted, OtherBoot, NotNewer}

-- versions are ordered by their boots and then by their sequences
abbrev pub is_newer : Version → Version → Bool
is_newer a b = nat_lt b.boot a.boot || (a.boot == b.boot && nat_lt b.sequence a.sequence)

-- a version is newer than the last one, or it is the first
abbrev pub is_newer_than_last : Option Shown → Version → Bool
is_newer_than_last last version = option_map_or (λ s. is_newer version s.version) last true

-- what becomes of a state that echoes a boot, at a station of this boot
abbrev pub acceptance : ℕ → Option Shown → ℕ → Version → Acceptance
acceptance boot last echo version =
    if echo == boot then (if is_newer_than_last last version then Accepted else NotNewer) else OtherBoot

-- the boot of the station, and what was accepted last of each object, in a table by number from 1
pub record Views : Type 0 where
  pub boot : ℕ
  pub table : List (Option Shown)

abbrev pub last_in : List (Option Shown) → ℕ → Option Shown
last_in table object = if object == 0 then None else option_and_then (λ s. s) (slice_get table (object - 1))

abbrev pub last_of : Views → ℕ → Option Shown
last_of v object = last_in v.table object

-- a state that is accepted is the last of its object from then on
abbrev pub last_after : (ℕ → Option Shown) → Acceptance → Shown → ℕ → Option Shown
last_after last Accepted shown object = if object == shown.object then Some shown else last object
last_after last OtherBoot shown object = last object
last_after last NotNewer shown object = last object
