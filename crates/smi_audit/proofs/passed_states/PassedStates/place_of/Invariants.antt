use Rattle.std.proofs.Common.{◌-◌}
use Rattle.smi_audit.proofs.Searching.{Narrows}
use Rattle.smi_audit.proofs.passed_states.PassedStates.place_of.Given as goal

abbrev pub invariant-loop-low : goal.invariant-loop-low
invariant-loop-low l = Narrows l.self-inside.list.items l.version l.low l.high

abbrev pub decreases-loop-low : goal.decreases-loop-low
decreases-loop-low l = l.high - l.low
