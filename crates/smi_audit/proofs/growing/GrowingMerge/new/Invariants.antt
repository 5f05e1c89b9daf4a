use Rattle.std.proofs.Common.{◌≡◌}
use Rattle.smi_audit.specs.Grown.{empties}
use Rattle.smi_audit.proofs.growing.GrowingMerge.new.Given as goal

abbrev pub invariant-loop : goal.invariant-loop
invariant-loop l = l.journals.items ≡ empties l.counter
