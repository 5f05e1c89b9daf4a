-- Which of two states is the newer, which of two records the further, and what is had after one more.
use Rattle.std.specs.Prelude.{ℕ, ◌≡◌, ◌<◌, ◌≤◌, ◌⊎◌, ◌==◌, ◌&&◌, ◌||◌, nat_lt, Bool, if◌then◌else◌, Option, Some, None}
use Rattle.smi_grant.specs.Rank.{RanksBelow, place_of, rank}
use Rattle.smi_grant.specs.Record as grants
use Rattle.smi_grant.specs.declared.state.Shown.{Shown}
use Rattle.smi_grant.specs.declared.state.Version.{Version}
use Rattle.smi_view.specs.Accepting.{is_newer}
use Rattle.smi_view.specs.declared.sight.Hearing.{Hearing}
use Rattle.smi_view.specs.declared.sight.Sight.{Sight}

-- one record ranks above another: by its epoch, then its last command, and done after busy
abbrev pub is_further : grants.Standing → grants.Standing → Bool
is_further r s =
    nat_lt s.epoch r.epoch || (r.epoch == s.epoch && nat_lt (place_of s.phase s.last) (place_of r.phase r.last))

abbrev pub sight : Shown → ℕ → Sight
sight shown now = record { shown = shown; at = now }

-- what is had of an object, once a state of it is shown
abbrev pub shown_after : Option Sight → Shown → ℕ → Option Sight
shown_after None shown now = Some (sight shown now)
shown_after (Some seen) shown now =
    if is_newer shown.version seen.shown.version then Some (sight shown now) else Some seen

-- what is had of a domain, once a record of it is told
abbrev pub told_after : Option Hearing → grants.Standing → ℕ → Option Hearing
told_after None told now = Some (record { «record» = told; since = now; heard = now })
told_after (Some had) told now =
    if is_further told had.«record» then Some (record { «record» = told; since = now; heard = now })
    else Some (record had { heard = now })

-- one version is not newer than another
abbrev pub IsNotNewer : Version → Version → Type 0
IsNotNewer a b = (a.boot < b.boot) ⊎ ((a.boot ≡ b.boot) × (a.sequence ≤ b.sequence))

-- something is had of the object, in this version or in a newer one
abbrev pub ShowsAtLeast : Version → Option Sight → Type 0
ShowsAtLeast version None = ⊥
ShowsAtLeast version (Some seen) = IsNotNewer version seen.shown.version

-- one record has come no further than another: it ranks below it, or just as it does
abbrev pub IsNotFurther : grants.Standing → grants.Standing → Type 0
IsNotFurther r s = RanksBelow r s ⊎ (rank r ≡ rank s)

-- a record of the domain is had, and it has come as far as this one
abbrev pub StandsAtLeast : grants.Standing → Option Hearing → Type 0
StandsAtLeast told None = ⊥
StandsAtLeast told (Some had) = IsNotFurther told had.«record»
