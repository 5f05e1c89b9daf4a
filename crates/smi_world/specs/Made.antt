-- A step that a station has made.
use Rattle.std.specs.Prelude.{◌≡◌, ◌++◌}
use Rattle.smi_tree.specs.Hierarchy.{Hierarchy}
use Rattle.smi_protocol.specs.Step.{Out, Outcome}
use Rattle.smi_station.specs.Core.{Core, IsOf, number_of, station_of, tree_of}
use Rattle.smi_world.specs.Left.{Left, entries_left}

-- the station is what is defined, and has handed out what is defined
pub record Steps (before next : Core) (o : Outcome) (handed : Out) : Type 0 where
  pub station : station_of next ≡ o.station
  pub out : handed ≡ o.out
  pub same : IsOf (tree_of before) (number_of before) next

-- and leaves what is defined
pub record Leaves (h : Hierarchy) (l : Left) (o : Outcome) : Type 0 where
  pub kept : l.out.kept ≡ o.kept
  pub entries : entries_left h l ≡ o.kept ++ o.after
  pub sends : l.out.datagrams ≡ o.out.datagrams
