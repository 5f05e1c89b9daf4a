-- In whose journal an entry is.
use Rattle.std.specs.Prelude.{ℕ, if◌then◌else◌, Bool, Option, Some, None, option_and_then}
use Rattle.smi_base.specs.Between.{is_between}
use Rattle.smi_tree.specs.Hierarchy.{Hierarchy}
use Rattle.smi_tree.specs.Lookups.{station_count, station_of, parent_of, operator_station_of}
use Rattle.smi_tree.specs.Roles.{has_object, holder_station, keeper_of}
use Rattle.smi_protocol.specs.declared.Entry.{Entry}
use Rattle.smi_protocol.specs.declared.Entry.TheVariants as entry

-- the tree has the station
abbrev pub has_station : Hierarchy → ℕ → Bool
has_station h s = is_between 1 (station_count h) s

abbrev pub station_named : Hierarchy → ℕ → Option ℕ
station_named h s = if has_station h s then Some s else None

-- the keeper of the domain above
abbrev pub station_above : Hierarchy → ℕ → Option ℕ
station_above h d = option_and_then (station_of h) (parent_of h d)

-- the keeper of an object of the tree
abbrev pub station_of_object : Hierarchy → ℕ → Option ℕ
station_of_object h x = if has_object h x then keeper_of h x else None

-- a keeper tells what becomes of its domain, an operator's station its orders, a holder's station its links, the
-- keeper above a child's mode, and a station its starts, what it is shown, and what its objects pass
abbrev pub teller_of : Hierarchy → Entry → Option ℕ
teller_of h (entry.Booted s b) = station_named h s
teller_of h (entry.Granted d e who) = station_of h d
teller_of h (entry.Freed d e) = station_of h d
teller_of h (entry.Ordered o d e n c) = operator_station_of h o
teller_of h (entry.Ran d e n c) = station_of h d
teller_of h (entry.Learned who d e) = holder_station h who
teller_of h (entry.LetGo who d e) = holder_station h who
teller_of h (entry.InMode d m) = station_above h d
teller_of h (entry.Settled d e n x) = station_of h d
teller_of h (entry.Showed s shown) = station_named h s
teller_of h (entry.Passed shown) = station_of_object h shown.object
teller_of h (entry.Told o told) = operator_station_of h o
