use Rattle.std.proofs.Common.{◌≡◌, drop}
use Rattle.smi_protocol.specs.Hearing.{gathered_with}
use Rattle.smi_station_decide.proofs.tell.gathered_with.Given as goal

-- the code so far and those that are left make the code of all
abbrev pub invariant-loop-i : goal.invariant-loop-i
invariant-loop-i l = gathered_with l.largest (drop l.i l.settlements) ≡ gathered_with l.code l.settlements
