-- The states of a station's objects after a unit has followed its members.
use Rattle.std.specs.Prelude.{ℕ, Option}
use Rattle.smi_publish.specs.declared.condition.Condition.{Condition}
use Rattle.smi_protocol.specs.Grants.{Grants}
use Rattle.smi_protocol.specs.Showing.{members_of}
use Rattle.smi_station_display.specs.Displayed.{Displayed, display_of}
use Rattle.smi_station_display.specs.Members.{Listed, followed_by, listed_of}

-- the unit of a domain follows its members, which were these
abbrev pub followed_at : Displayed → Grants → Listed → ℕ → ℕ → Option Condition
followed_at s g before d =
    followed_by s.tree before (listed_of (members_of s.tree g (display_of s).conditions (display_of s).shown d))
    (display_of s).conditions d
