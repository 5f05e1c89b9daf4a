use Rattle.std.proofs.Common.{◌≡◌, drop}
use Rattle.smi_rows.specs.Ranges.{rises_above}
use Rattle.smi_rows.proofs.ranges.is_rising.Given as goal

-- the links rise where those that are left do
abbrev pub invariant-loop-stored : goal.invariant-loop-stored
invariant-loop-stored l = rises_above l.low (drop l.stored-index l.links) ≡ rises_above 0 l.links
