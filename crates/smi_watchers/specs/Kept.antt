-- The watcher lists that cells stand for.
use Rattle.std.specs.Prelude.{◌≡◌, ℕ, ◌<◌, ◌^◌, List, [], length, map, slice_get, unwrap_or, Option}
use Rattle.smi_watchers.specs.declared.cell.Cell.{Cell}
use Rattle.smi_watchers.specs.declared.cell.Sides.{Sides}
use Rattle.smi_watchers.specs.declared.cell.Spot.{Spot}
use Rattle.smi_watchers.specs.declared.watcher.Watcher.{Watcher}
use Rattle.smi_watchers.specs.Net.{Net}
use Rattle.smi_watchers.specs.Mesh.{IsWhole}
use Rattle.smi_watchers.specs.Walked.{steps_from}
use Rattle.smi_watchers.specs.Watching.{watcher, IsAudience}

-- the watcher that a cell stands for
abbrev pub watcher_of : Cell → Watcher
watcher_of c = watcher c.station c.echo

abbrev pub watcher_in : Spot × Cell → Watcher
watcher_in s = watcher_of s.1

-- the watchers from a node of an object's list on
abbrev pub watchers_from : Net → Option Spot → List Watcher
watchers_from n m = map watcher_in (steps_from n m)

-- the list of each object
abbrev pub lists_of : Net → List (List Watcher)
lists_of n = map (λ (head : Sides). watchers_from n head.after) n.objects

-- stations are numbered from 1 to 128, and the list of number 0 is there so that a number is a place
abbrev pub station_heads : ℕ
station_heads = 129

-- the cells are in both of their lists, and each object's list is an audience
pub record IsKept (n : Net) : Type 0 where
  pub whole : IsWhole n
  pub audiences : (i : ℕ) → IsAudience (unwrap_or (slice_get (lists_of n) i) [])
  pub objects : length n.objects < 2 ^ 16
  pub stations : length n.stations ≡ station_heads
