use Rattle.smi_audit.specs.Merged.{GoesFurther, StuckBefore}
use Rattle.smi_audit.proofs.merge.round.Given as goal

abbrev pub invariant-loop-place : goal.invariant-loop-place
invariant-loop-place l = GoesFurther l.fn.audit l.fn.journals l.audit l.journals
    × StuckBefore l.moved l.fn.audit l.fn.journals l.audit l.journals l.place
