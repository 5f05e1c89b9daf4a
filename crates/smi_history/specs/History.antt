-- The entries of a history, the oldest first.
use Rattle.std.specs.Prelude.{ℕ, ◌+◌, ◌-◌, ◌*◌, ◌^◌, min, ◌==◌, nat_lt, ◌++◌, Bool, false, List, [], ◌∷◌}
use Rattle.std.specs.Prelude.{◌/◌, nat_le, length, drop, slice_range, fold, if◌then◌else◌}
use Rattle.std.specs.List.{position_or_len}
use Rattle.smi_tree.specs.Hierarchy.{Hierarchy}
use Rattle.smi_view.specs.Pictured.{Pictured}
use Rattle.smi_history.specs.declared.history.HistoryNote.{HistoryNote}
use Rattle.smi_history.specs.declared.history.HistoryEntry.{HistoryEntry}
use Rattle.smi_history.specs.declared.look_time.LookTime.{LookTime}
use Rattle.smi_history.specs.LookTime.{day_of}
use Rattle.smi_history.specs.Knowing.{known_notes}
use Rattle.smi_history.specs.Looking.{picture_notes, silences}

abbrev pub most_entries : ℕ
most_entries = 1_048_576

abbrev pub usual_days : ℕ
usual_days = 31

-- how many there were so far, up to which they are saved, for how many days they are kept, and those that are; when the
-- picture was looked at last, on which day, and of which domains the station was silent then
pub record HistoryState : Type 0 where
  pub count : ℕ
  pub saved : ℕ
  pub days : ℕ
  pub entries : List HistoryEntry
  pub looked : ℕ
  pub day : ℕ
  pub silent : List Bool

abbrev pub empty : HistoryState
empty = record { count = 0; saved = 0; days = usual_days; entries = []; looked = 0; day = 0; silent = [] }

abbrev pub kept_for : HistoryState → ℕ → HistoryState
kept_for h days = record h { days = days }

-- all so far are saved
abbrev pub all_saved : HistoryState → HistoryState
all_saved h = record h { saved = h.count }

-- this many are kept no longer
abbrev pub dropped : HistoryState → ℕ
dropped h = h.count - length h.entries

-- when the oldest is from
abbrev pub oldest : List HistoryEntry → ℕ
oldest [] = 0
oldest (e ∷ more) = e.note.at

-- it is of a second or of a later one
abbrev pub is_since : ℕ → HistoryEntry → Bool
is_since second e = nat_le second (e.note.at / 1_000)

-- how many come before the first such one
abbrev pub count_before : ℕ → List HistoryEntry → ℕ
count_before second entries = position_or_len (is_since second) entries

abbrev pub most_told : ℕ
most_told = 10_000

-- in which place the first one after a number is
abbrev pub place_after : HistoryState → ℕ → ℕ
place_after h number = min (number - dropped h) (length h.entries)

-- those after a number, at most 10,000
abbrev pub piece : HistoryState → ℕ → List HistoryEntry
piece h number =
    slice_range h.entries (place_after h number) (min (place_after h number + most_told) (length h.entries))

-- if as many are kept as can be, the oldest goes
abbrev pub with_room : List HistoryEntry → List HistoryEntry
with_room kept = if length kept == most_entries then drop 1 kept else kept

abbrev pub next_number : ℕ → ℕ
next_number count = min (count + 1) (2 ^ 64 - 1)

-- the newest is the last, and has the next number
abbrev pub noted : HistoryState → HistoryNote → HistoryState
noted h note = record h {
  count = next_number h.count;
  entries = with_room h.entries ++ record { number = next_number h.count; note = note } ∷ [];
}

-- one after the other
abbrev pub all_noted : HistoryState → List HistoryNote → HistoryState
all_noted h notes = fold noted h notes

-- the oldest is from before a time
abbrev pub begins_before : ℕ → List HistoryEntry → Bool
begins_before time [] = false
begins_before time (e ∷ more) = nat_lt e.note.at time

-- the oldest are gone, as long as they are from before a time
abbrev pub from_then : ℕ → List HistoryEntry → List HistoryEntry
from_then time [] = []
from_then time (e ∷ more) = if nat_lt e.note.at time then from_then time more else e ∷ more

abbrev pub forgotten : HistoryState → ℕ → HistoryState
forgotten h time = record h { entries = from_then time h.entries }

-- from when on entries are kept for this many days
abbrev pub oldest_time : ℕ → ℕ → ℕ
oldest_time days clock = clock - min (days * 86_400_000) (2 ^ 64 - 1)

-- at the first look of a day what is known is noted, and no station counts as silent before
abbrev pub known_today : HistoryState → Hierarchy → Pictured → LookTime → List HistoryNote
known_today h tree picture m = if h.day == day_of m then [] else known_notes tree picture m

abbrev pub silent_before : HistoryState → LookTime → List Bool
silent_before h m = if h.day == day_of m then h.silent else []

abbrev pub then_known : HistoryState → Hierarchy → Pictured → LookTime → HistoryState
then_known h tree picture m =
    all_noted (record (forgotten h (oldest_time h.days m.clock)) {
      looked = m.now;
      day = day_of m;
      silent = silences tree picture m;
    })
    (known_today h tree picture m)

-- what is too old is gone, and what is new in a picture is noted
abbrev pub looked_at : HistoryState → Hierarchy → Pictured → LookTime → HistoryState
looked_at h tree picture m =
    all_noted (then_known h tree picture m) (picture_notes tree picture h.looked m (silent_before h m))
