-- Who watches what: for each object, in the order of their numbers, a list of stations with their boots.
use Rattle.std.specs.Prelude.{ℕ, ◌≡◌, ◌≢◌, ◌≤◌, ◌-◌, ◌==◌, ◌&&◌, nat_lt, nat_le, max, not, Bool, if◌then◌else◌, List}
use Rattle.std.specs.Prelude.{[], ◌∷◌, length, AllPairs, filter, find, map, slice_get, slice_set, count_by, sum_by}
use Rattle.std.specs.Prelude.{Option, Some, None, unwrap_or}
use Rattle.std.specs.List.{slice_index_or}
use Rattle.smi_watchers.specs.declared.watchers.TheConstants.{MOST_WATCHERS}
use Rattle.smi_watchers.specs.declared.watcher.Watcher.{Watcher}
use Rattle.smi_watchers.specs.declared.answer.WatchAnswer.{WatchAnswer}
use Rattle.smi_watchers.specs.declared.answer.WatchAnswer.TheVariants.{Added, Replaced, Present, Older}

-- how many stations may watch an object at a time
abbrev pub most_watchers : ℕ
most_watchers = MOST_WATCHERS

abbrev pub watcher : ℕ → ℕ → Watcher
watcher station echo = record { station = station; echo = echo }

abbrev pub is_of : ℕ → Watcher → Bool
is_of station w = w.station == station

-- The list of one object.

-- the watchers of other stations
abbrev pub others_of : ℕ → List Watcher → List Watcher
others_of station ws = filter (λ w. not (is_of station w)) ws

-- the watcher with the newer of its own echo and this one
abbrev pub renewed_by : ℕ → Watcher → Watcher
renewed_by echo w = watcher w.station (max w.echo echo)

-- a station that watches already gets the newer echo in its place, another one is added after all
abbrev pub watch_in : List Watcher → ℕ → ℕ → List Watcher
watch_in [] station echo = watcher station echo ∷ []
watch_in (w ∷ ws) station echo = if is_of station w then renewed_by echo w ∷ ws else w ∷ watch_in ws station echo

-- the watcher at a place has the newer echo
abbrev pub renewed_at : List Watcher → ℕ → ℕ → List Watcher
renewed_at ws place echo = slice_set ws place (renewed_by echo (slice_index_or ws place (watcher 0 0)))

-- what a watch finds of its station
abbrev pub answer_at : Option Watcher → ℕ → WatchAnswer
answer_at None echo = Added
answer_at (Some w) echo = if nat_lt w.echo echo then Replaced else (if w.echo == echo then Present else Older)

abbrev pub answer_in : List Watcher → ℕ → ℕ → WatchAnswer
answer_in ws station echo = answer_at (find (is_of station) ws) echo

-- a watch is ended by an echo that is not older than its own
abbrev pub is_ended_by : ℕ → ℕ → Watcher → Bool
is_ended_by station echo w = is_of station w && nat_le w.echo echo

abbrev pub unwatch_in : List Watcher → ℕ → ℕ → List Watcher
unwatch_in ws station echo = filter (λ w. not (is_ended_by station echo w)) ws

-- the object has as many other watchers as it may have
abbrev pub IsFullFor : ℕ → List Watcher → Type 0
IsFullFor station ws = length (others_of station ws) ≡ most_watchers

abbrev pub AreApart : Watcher → Watcher → Type 0
AreApart v w = v.station ≢ w.station

-- not too many watchers, and no station twice
pub record IsAudience (ws : List Watcher) : Type 0 where
  pub few : length ws ≤ most_watchers
  pub once : AllPairs AreApart ws

-- The lists of all objects, the first object's first.

abbrev pub listed : List (List Watcher) → ℕ → List Watcher
listed lists object = unwrap_or (slice_get lists (object - 1)) []

abbrev pub with_list : List (List Watcher) → ℕ → List Watcher → List (List Watcher)
with_list lists object ws = slice_set lists (object - 1) ws

abbrev pub watched : List (List Watcher) → ℕ → ℕ → ℕ → List (List Watcher)
watched lists object station echo = with_list lists object (watch_in (listed lists object) station echo)

abbrev pub unwatched : List (List Watcher) → ℕ → ℕ → ℕ → List (List Watcher)
unwatched lists object station echo = with_list lists object (unwatch_in (listed lists object) station echo)

-- a station has left every list
abbrev pub left_by : ℕ → List (List Watcher) → List (List Watcher)
left_by station lists = map (others_of station) lists

-- how many entries of all lists are a station's
abbrev pub entries_of : ℕ → List (List Watcher) → ℕ
entries_of station lists = sum_by (count_by (is_of station)) lists

-- a station has left every list and watches one object again
abbrev pub renewed : List (List Watcher) → ℕ → ℕ → ℕ → List (List Watcher)
renewed lists object station echo = watched (left_by station lists) object station echo
