use Rattle.std.proofs.Common.{◌≡◌}
use Rattle.smi_audit.specs.Merged.{GoesFurther}
use Rattle.smi_audit.proofs.merge.drain.Given as goal

abbrev pub invariant-loop-number : goal.invariant-loop-number
invariant-loop-number l = GoesFurther l.fn.audit l.fn.journals l.audit l.journals
    × (l.number ≡ 0 → (l.audit ≡ l.fn.audit) × (l.journals ≡ l.fn.journals))
