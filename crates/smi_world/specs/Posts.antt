-- The stations of a world as they are kept.
use Rattle.std.specs.Prelude.{ℕ, suc, ◌≡◌, ◌||◌, false, List, [], ◌∷◌, length}
use Rattle.smi_message.specs.Message.{Message}
use Rattle.smi_tree.specs.Hierarchy.{Hierarchy}
use Rattle.smi_tree.specs.Lookups.{station_count}
use Rattle.smi_rows.specs.Store.{found_in}
use Rattle.smi_protocol.specs.Display.{Station}
use Rattle.smi_protocol.specs.declared.entry.Entry.{Entry}
use Rattle.smi_station.specs.Core.{IsOf, IsStoredIn, station_of}
use Rattle.smi_protocol.specs.Schedule.{Turn, World}
use Rattle.smi_law.specs.World.{Reaches}
use Rattle.smi_world.specs.declared.post.Post.{Post}
use Rattle.smi_world.specs.Left.{Left, entries_left}
use Rattle.smi_world.specs.Turning.{Act}

-- It is that station: it keeps the same grants, and its rows say so; and it shows the same, while it runs.
pub record IsPost (h : Hierarchy) (number : ℕ) (p : Post) (s : Station) : Type 0 where
  pub of_tree : IsOf h number p.station.core
  pub grants : (station_of p.station.core).grants ≡ s.grants
  pub stopped : s.is_stopped ≡ (p.station.core.is_stopped || p.is_down)
  pub display : s.is_stopped ≡ false → (station_of p.station.core).display ≡ s.display
  pub stored : IsStoredIn (found_in p.station.store.list) p.station.core

-- The station has made this, and what it leaves is that.
pub record Makes (h : Hierarchy) (number : ℕ) (p : Post) (l : Left) (a : Act) : Type 0 where
  pub post : IsPost h number p a.station
  pub entries : entries_left h l ≡ a.entries
  pub sends : l.out.datagrams ≡ a.sends

-- they are these stations, by number
abbrev pub ArePosts : Hierarchy → ℕ → List Post → (ℕ → Station) → Type 0
ArePosts h number [] stations = Unit {0}
ArePosts h number (p ∷ posts) stations = IsPost h number p (stations number) × ArePosts h (suc number) posts stations

-- what a world holds
pub record Held : Type 0 where
  pub tree : Hierarchy
  pub posts : List Post
  pub sent : List Message

-- it is that world
pub record IsAt (x : Held) (w : World) : Type 0 where
  pub count : length x.posts ≡ station_count x.tree
  pub posts : ArePosts x.tree 1 x.posts w.stations
  pub sent : x.sent ≡ w.sent

-- it is a world that can be reached
pub record IsReached (x : Held) : Type 0 where
  pub past : List Entry
  pub world : World
  pub is : IsAt x world
  pub reached : Reaches x.tree past world

-- what a world holds, put together
abbrev pub held : Hierarchy → List Post → List Message → Held
held h posts sent = record { tree = h; posts = posts; sent = sent }

-- An item has made this of that world, and has left that.
pub record IsMade (x : Held) (l : Left) (w : World) (t : Turn) : Type 0 where
  pub is : IsAt x t.world
  pub entries : entries_left x.tree l ≡ t.entries
  pub sends : l.out.datagrams ≡ t.sends
  pub before : l.before ≡ length w.sent
