-- Which station a command line names.
use Rattle.std.specs.Prelude.{ℕ, ◌≡◌, List, Some}
use Rattle.smi_tree.specs.Hierarchy.{Hierarchy}
use Rattle.smi_tree.specs.Name.{number_of}

-- the station of this name in a tree has this number
abbrev pub IsStationNamed : Hierarchy → List ℕ → ℕ → Type 0
IsStationNamed h name station = number_of h.station_names name ≡ Some station
