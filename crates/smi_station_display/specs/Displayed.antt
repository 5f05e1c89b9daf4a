-- What a station keeps of states and of watching, in tables by number.
use Rattle.std.specs.Prelude.{ℕ, ◌≡◌, Bool, true, false, List, length, Option, None}
use Rattle.smi_message.specs.Message.{is_boot}
use Rattle.smi_tree.specs.Hierarchy.{Hierarchy}
use Rattle.smi_tree.specs.Lawful.{IsTree, IsBetween}
use Rattle.smi_tree.specs.Lookups.{station_count, operator_count}
use Rattle.smi_publish.specs.Published.{Published, conditions_of}
use Rattle.smi_view.specs.Accepting.{Views, last_of}
use Rattle.smi_watchers.specs.declared.Watcher.{Watcher}
use Rattle.smi_protocol.specs.Display.{Display}
use Rattle.smi_protocol.specs.Opening.{object_count}
use Rattle.smi_protocol.specs.SoundDisplay.{IsDisplay}
use Rattle.smi_protocol.specs.declared.ResendCursor.{ResendCursor}
use Rattle.smi_station_grants.specs.Entries.{entry_or}

-- The states of its own objects and of others, which objects its operators name, the greatest echo of each
-- station, the watchers of each object, where the next tick begins, and what each operator has asked about.
pub record Displayed : Type 0 where
  pub tree : Hierarchy
  pub number : ℕ
  pub published : Published
  pub views : Views
  pub named : List Bool
  pub echoes : List ℕ
  pub watchers : List (List Watcher)
  pub place : ResendCursor
  pub asks : List (Option ℕ)

-- the display that the tables hold
abbrev pub display_of : Displayed → Display
display_of s = record {
  conditions = conditions_of s.published;
  shown = last_of s.views;
  named = λ x. entry_or s.named x false;
  echoes = λ station. entry_or s.echoes station 0;
  watchers = s.watchers;
  place = s.place;
  asks = λ o. entry_or s.asks o None;
}

-- the tables have a place for every number of the tree, and what they hold can be told
pub record IsDisplayed (s : Displayed) : Type 0 where
  pub tree : IsTree s.tree
  pub number : IsBetween 1 (station_count s.tree) s.number
  pub boot : is_boot s.published.boot ≡ true
  pub one_boot : s.views.boot ≡ s.published.boot
  pub views : length s.views.table ≡ object_count s.tree
  pub named : length s.named ≡ object_count s.tree
  pub echoes : length s.echoes ≡ station_count s.tree
  pub asks : length s.asks ≡ operator_count s.tree
  pub sound : IsDisplay s.tree s.number (display_of s)
