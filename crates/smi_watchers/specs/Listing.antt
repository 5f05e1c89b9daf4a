-- What a caller sees of the watcher lists.
use Rattle.std.specs.Prelude.{ℕ, List}
use Rattle.smi_watchers.specs.declared.watcher.Watcher.{Watcher}

-- the list of each object, the first object's first, and how many cells the last leaving looked at
pub record Listing : Type 0 where
  pub lists : List (List Watcher)
  pub visits : ℕ
