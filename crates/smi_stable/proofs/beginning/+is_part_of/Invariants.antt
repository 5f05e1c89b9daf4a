use Rattle.std.proofs.Common.{length}
use Rattle.smi_stable.proofs.beginning.+is_part_of.Given as goal

abbrev pub decreases-is_part_of : goal.decreases-is_part_of
decreases-is_part_of l = length l.bytes.now
