use Rattle.std.proofs.Common.{◌≡◌, ◌-◌}
use Rattle.smi_rows.specs.Reading.{are_cut}
use Rattle.smi_rows.proofs.places.are_cut.Given as goal

-- the bytes are this many links if the rest is what is left of them
abbrev pub invariant-loop-i : goal.invariant-loop-i
invariant-loop-i l = are_cut l.schema (l.count - l.i) l.rest ≡ are_cut l.schema l.count l.links
