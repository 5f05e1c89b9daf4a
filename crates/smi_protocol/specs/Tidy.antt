-- Lists of watchers that are tidy: a list for each object of the tree, and in them no watch since a later boot of a
-- station than the greatest that was heard of it.
use Rattle.std.specs.Prelude.{ℕ, ◌≡◌, ◌≤◌, length}
use Rattle.smi_tree.specs.Hierarchy.{Hierarchy}
use Rattle.smi_watchers.specs.Watching.{listed, watcher}
use Rattle.smi_protocol.specs.Display.{Display}
use Rattle.smi_protocol.specs.Opening.{object_count}
use Rattle.smi_protocol.specs.Sound.{In}

pub record IsTidy (h : Hierarchy) (s : Display) : Type 0 where
  pub lists : length s.watchers ≡ object_count h
  pub greatest : (x station echo : ℕ) → In (watcher station echo) (listed s.watchers x) → echo ≤ s.echoes station
