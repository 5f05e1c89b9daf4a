use Rattle.std.proofs.Common.{arith}
use Rattle.smi_audit.proofs.Stuck.{stuck_at_last, moved_for_long}
use Rattle.smi_audit.proofs.merge.go_through.Goals as goal

pub returns-then-not-branch-clause-stuck : goal.returns-then-not-branch-clause-stuck
returns-then-not-branch-clause-stuck c =
    stuck_at_last c.loop-number.moved c.in_ok-round.field-0 c.loop-number._number c.args.audit.now c.loop-number.audit
    c.round.new.audit c.args.journals.now c.loop-number.journals c.round.new.journals c.loop-number.invariant.1
    c.if-not-branch.true c.in_ok-round.ensures.stuck

pub returns-clause-stuck : goal.returns-clause-stuck
returns-clause-stuck c =
    moved_for_long c.loop-number.moved c.loop-number._number c.args.audit.now c.loop-number.audit c.args.journals.now
    c.loop-number.journals c.loop-number.invariant.1
    (let far = c.loop-number-test.false in omega (arith, far))
