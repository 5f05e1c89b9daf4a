use Rattle.std.proofs.Common.{◌≡◌}
use Rattle.std.specs.Prelude.{map}
use Rattle.std.specs.List.{range_with_len}
use Rattle.smi_station_grants.specs.Restored.{first_links}
use Rattle.smi_station_grants.proofs.restore.links_of_operators.Given as goal

-- the links of the first operators are there
abbrev pub invariant-loop-place : goal.invariant-loop-place
invariant-loop-place l = l.tables.items ≡ map (first_links l.tree l.number) (range_with_len 1 l.place)
