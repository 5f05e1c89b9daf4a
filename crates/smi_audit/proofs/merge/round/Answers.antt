use Rattle.std.proofs.Common.{arith}
use Rattle.smi_audit.proofs.Stuck.{stuck_whole}
use Rattle.smi_audit.proofs.merge.round.Goals as goal

pub returns-clause-stuck : goal.returns-clause-stuck
returns-clause-stuck c =
    stuck_whole c.loop-place.moved c.args.audit.now c.loop-place.audit c.args.journals.now c.loop-place.journals
    c.loop-place.place c.loop-place.invariant.1
    (let long = c.loop-place.auto.journals in let past = c.loop-place-test.false in omega (arith, long, past))
