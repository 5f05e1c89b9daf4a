use Rattle.std.proofs.Common.{◌≡◌}
use Rattle.smi_disks.specs.LogCheck.{frames_read}
use Rattle.smi_disks.proofs.log_check.walk.Given as goal

-- this many frames are read
abbrev pub invariant-loop : goal.invariant-loop
invariant-loop l = l.reading ≡ frames_read l.head l.size l.initial.reading l.counter
