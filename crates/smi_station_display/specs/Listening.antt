-- What a watch finds of the lists.
use Rattle.std.specs.Prelude.{ℕ, ◌≡◌, ◌&&◌, nat_lt, not, Bool, true, false, if◌then◌else◌, List, Option, None}
use Rattle.smi_watchers.specs.declared.Watcher.{Watcher}
use Rattle.smi_watchers.specs.declared.answer.WatchAnswer.{WatchAnswer}
use Rattle.smi_watchers.specs.declared.answer.WatchAnswer.TheVariants.{Added}
use Rattle.smi_watchers.specs.Watching.{answer_in, left_by, listed}
use Rattle.smi_tree.specs.Roles.{is_number}
use Rattle.smi_protocol.specs.Display.{Display}
use Rattle.smi_protocol.specs.Watching.{lists_before}
use Rattle.smi_station_display.specs.Displayed.{Displayed}

-- the lists before a watch: a station that was started again has left them
abbrev pub before_by : Bool → List (List Watcher) → ℕ → List (List Watcher)
before_by is_newer lists from = if is_newer then left_by from lists else lists

abbrev pub is_added : WatchAnswer → Bool
is_added Added = true
is_added other = false

-- a watch adds an entry to an object's list: it is not an older one, and its station is not there, or was started
-- again
abbrev pub adds_watcher : Display → ℕ → ℕ → ℕ → Bool
adds_watcher s from x echo =
    not (nat_lt echo (s.echoes from)) && is_added (answer_in (listed (lists_before s from echo) x) from echo)

-- the tree, the station and its boot are those of before
pub record KeepsTheRest (before after : Displayed) : Type 0 where
  pub tree : after.tree ≡ before.tree
  pub number : after.number ≡ before.number
  pub boot : after.published.boot ≡ before.published.boot

-- a question, unless it is about the domain
abbrev pub forgotten : ℕ → Option ℕ → Option ℕ
forgotten d o = if is_number o d then None else o
