use Rattle.std.proofs.Common.{◌≡◌, ◌++◌, length}
use Rattle.smi_disks.specs.Spoken.{spoken}
use Rattle.smi_disks.proofs.speaking.speak.Given as goal

-- what was said, and what the lines left say, is what the file says
abbrev pub invariant-loop-cut : goal.invariant-loop-cut
invariant-loop-cut l = l.text.items ++ spoken l.rest ≡ spoken l.file

abbrev pub decreases-loop-cut : goal.decreases-loop-cut
decreases-loop-cut l = length l.rest
