-- A board's rows, and what its station was shown: no object goes back.
use Rattle.std.specs.Prelude.{ℕ, ◌≡◌, true, List, [], ◌++◌, Option}
use Rattle.smi_grant.specs.declared.state.Shown.{Shown}
use Rattle.smi_grant.specs.declared.state.Version.{Version}
use Rattle.smi_view.specs.Accepting.{is_newer_than_last}
use Rattle.smi_view.specs.Rising.{IsRising}
use Rattle.smi_view.specs.Rows.{last_row}
use Rattle.smi_view.specs.Shows.{BoardShows}
use Rattle.smi_station.specs.Core.{Core, station_of}

-- all that was put on a board: what was published, and then what is pending
abbrev pub rows_of : BoardShows → List Shown
rows_of b = b.publications ++ b.pending

-- what a station was shown last of each object
abbrev pub shown_to : Core → ℕ → Option Shown
shown_to c = (station_of c).display.shown

-- The rows of each object rise, and none is newer than what the station was shown last: whatever would be news to the
-- station is newer than the last row.
pub record IsRisen (shown : ℕ → Option Shown) (b : BoardShows) : Type 0 where
  pub rising : IsRising (rows_of b)
  pub behind : (x : ℕ) (v : Version) → is_newer_than_last (shown x) v ≡ true
      → is_newer_than_last (last_row x (rows_of b)) v ≡ true

-- nothing was put on it yet
abbrev pub IsBlank : BoardShows → Type 0
IsBlank b = (b.publications ≡ []) × (b.pending ≡ [])

-- it stays so, and what was published rises
abbrev pub StaysRisen : (before after : ℕ → Option Shown) → BoardShows → BoardShows → Type 0
StaysRisen before after a b = IsRisen before a → (IsRisen after b × IsRising b.publications)
