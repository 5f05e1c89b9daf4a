-- The cells and the heads of their lists: what linking makes of them.
use Rattle.std.specs.Prelude.{ℕ, ◌<◌, nat_lt, if◌then◌else◌, List, ◌∷◌, length, slice_set, Option, Some, None}
use Rattle.std.specs.Prelude.{unwrap_or, IsSome}
use Rattle.std.specs.List.{slice_index_or}
use denote.RawPtr.{Ptr}
use Rattle.smi_watchers.specs.declared.cell.Cell.{Cell}
use Rattle.smi_watchers.specs.declared.cell.Sides.{Sides}
use Rattle.smi_watchers.specs.declared.cell.Spot.{Spot}
use Rattle.smi_watchers.specs.declared.lists.Axis.{Axis}
use Rattle.smi_watchers.specs.declared.lists.Axis.TheVariants.{Object, Station}
use Rattle.smi_watchers.specs.Held.{found, without}

pub record Net : Type 0 where
  pub held : List (Ptr × Cell)
  pub objects : List Sides
  pub stations : List Sides

abbrev pub no_links : Sides
no_links = record { before = None; after = None }

abbrev pub no_cell : Cell
no_cell = record { object = 0; station = 0; echo = 0; by_object = no_links; by_station = no_links }

-- the heads of the lists along an axis
abbrev pub heads : Axis → Net → List Sides
heads Object n = n.objects
heads Station n = n.stations

abbrev pub links_in : Axis → Cell → Sides
links_in Object c = c.by_object
links_in Station c = c.by_station

abbrev pub relinked : Axis → Sides → Cell → Cell
relinked Object links c = record c { by_object = links }
relinked Station links c = record c { by_station = links }

abbrev pub with_heads : Axis → List Sides → Net → Net
with_heads Object hs n = record n { objects = hs }
with_heads Station hs n = record n { stations = hs }

-- the cell at a place
abbrev pub cell_at : Net → Spot → Cell
cell_at n p = unwrap_or (found p.at n.held) no_cell

-- a head that is there, or a cell that is held
abbrev pub IsNode : Axis → ℕ → Option Spot → Net → Type 0
IsNode axis list None n = list < length (heads axis n)
IsNode axis list (Some p) n = IsSome (found p.at n.held)

abbrev pub neighbours : Axis → ℕ → Net → Option Spot → Sides
neighbours axis list n None = slice_index_or (heads axis n) list no_links
neighbours axis list n (Some p) = links_in axis (cell_at n p)

abbrev pub with_links : Axis → ℕ → Option Spot → Sides → Net → Net
with_links axis list None links n = with_heads axis (slice_set (heads axis n) list links) n
with_links axis list (Some p) links n = record
    n { held = (p.at, relinked axis links (cell_at n p)) ∷ without p.at n.held }

-- along an axis, what a list's ring has after and before a node
abbrev pub next : Axis → ℕ → Net → Option Spot → Option Spot
next axis list n m = (neighbours axis list n m).after

abbrev pub prev : Axis → ℕ → Net → Option Spot → Option Spot
prev axis list n m = (neighbours axis list n m).before

abbrev pub with_next : Axis → ℕ → Option Spot → Option Spot → Net → Net
with_next axis list k v n = with_links axis list k (record (neighbours axis list n k) { after = v }) n

abbrev pub with_prev : Axis → ℕ → Option Spot → Option Spot → Net → Net
with_prev axis list k v n = with_links axis list k (record (neighbours axis list n k) { before = v }) n

-- the place and its neighbours are there
abbrev pub IsLinked : Axis → ℕ → Spot → Net → Type 0
IsLinked axis list p n = IsNode axis list (Some p) n × IsNode axis list (prev axis list n (Some p)) n
    × IsNode axis list (next axis list n (Some p)) n

-- its neighbours are joined
abbrev pub unlinked : Axis → ℕ → Spot → Net → Net
unlinked axis list p n = with_prev axis list (next axis list n (Some p)) (prev axis list n (Some p))
    (with_next axis list (prev axis list n (Some p)) (next axis list n (Some p)) n)

-- the place and the list's last node are there
abbrev pub MayLink : Axis → ℕ → Spot → Net → Type 0
MayLink axis list p n = IsNode axis list None n × IsNode axis list (Some p) n
    × IsNode axis list (prev axis list n None) n

-- the place comes between the last and the head
abbrev pub linked : Axis → ℕ → Spot → Net → Net
linked axis list p n = with_prev axis list None (Some p)
    (with_next axis list (prev axis list n None) (Some p)
    (with_links axis list (Some p) (record { before = prev axis list n None; after = None }) n))

abbrev pub with_cell : Spot → Cell → Net → Net
with_cell p c n = record n { held = (p.at, c) ∷ n.held }

abbrev pub without_cell : Spot → Net → Net
without_cell p n = record n { held = without p.at n.held }

-- a cell is out of its i-th object's list and its j-th station's, and given back
abbrev pub taken : ℕ → ℕ → Spot → Net → Net
taken i j p n = without_cell p (unlinked Station j p (unlinked Object i p n))

-- a cell is out of both of its lists, and given back
abbrev pub taken_out : Spot → Net → Net
taken_out p n = taken (cell_at n p).object (cell_at n p).station p n

-- a new cell is the last of both of its lists
abbrev pub put_in : Spot → Cell → Net → Net
put_in p c n = linked Station c.station p (linked Object c.object p (with_cell p c n))

-- a cell has this echo
abbrev pub with_echo : Spot → ℕ → Net → Net
with_echo p echo n = record n { held = (p.at, record (cell_at n p) { echo = echo }) ∷ without p.at n.held }

-- a cell has this echo, if it is newer than its own
abbrev pub with_newer : Spot → ℕ → Net → Net
with_newer p echo n = if nat_lt (cell_at n p).echo echo then with_echo p echo n else n
