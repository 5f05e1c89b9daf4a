-- What a station keeps of states and of watching so that all that it sends of them can be said in datagrams.
use Rattle.std.specs.Prelude.{ℕ, ◌≡◌, ◌≤◌, true, IfSome, length}
use Rattle.std.specs.List.{AllByRecursion}
use Rattle.smi_grant.specs.declared.Shown.{Shown}
use Rattle.smi_message.specs.Message.{is_boot, is_version}
use Rattle.smi_tree.specs.Hierarchy.{Hierarchy}
use Rattle.smi_tree.specs.Lawful.{IsBetween}
use Rattle.smi_tree.specs.Lookups.{domain_count, state_count, station_count}
use Rattle.smi_publish.specs.declared.condition.Condition.{Condition}
use Rattle.smi_publish.specs.Published.{HasRoom, last_sequence}
use Rattle.smi_tree.specs.Roles.{is_kept_by}
use Rattle.smi_watchers.specs.declared.Watcher.{Watcher}
use Rattle.smi_watchers.specs.Watching.{listed}
use Rattle.smi_protocol.specs.Display.{Display}
use Rattle.smi_protocol.specs.Opening.{object_count}

-- a state of the tree, at a sequence that can be told
pub record IsCondition (h : Hierarchy) (c : Condition) : Type 0 where
  pub state : IsBetween 1 (state_count h) c.state
  pub sequence : c.sequence ≤ last_sequence

-- what an object of the tree shows
pub record IsShown (h : Hierarchy) (s : Shown) : Type 0 where
  pub object : IsBetween 1 (object_count h) s.object
  pub version : is_version s.version ≡ true
  pub state : IsBetween 1 (state_count h) s.state

-- a station of the tree, in a boot that it can have
pub record IsWatcher (h : Hierarchy) (w : Watcher) : Type 0 where
  pub station : IsBetween 1 (station_count h) w.station
  pub echo : is_boot w.echo ≡ true

-- The objects that have a state are the station's own; those that are watched, and those that its operators name,
-- are the tree's; and questions are about the tree's domains.
pub record IsDisplay (h : Hierarchy) (number : ℕ) (s : Display) : Type 0 where
  pub own : (x : ℕ) → IfSome (s.conditions x) (λ c. is_kept_by h number x ≡ true)
  pub conditions : (x : ℕ) → IfSome (s.conditions x) (IsCondition h)
  pub lists : length s.watchers ≡ object_count h
  pub watchers : (x : ℕ) → AllByRecursion (IsWatcher h) (listed s.watchers x)
  pub named : (x : ℕ) → s.named x ≡ true → IsBetween 1 (object_count h) x
  pub asks : (o : ℕ) → IfSome (s.asks o) (IsBetween 1 (domain_count h))

-- each object may change once more
abbrev pub MayChange : Display → Type 0
MayChange s = (x : ℕ) → HasRoom s.conditions x
