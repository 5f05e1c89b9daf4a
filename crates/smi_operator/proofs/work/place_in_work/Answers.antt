use Rattle.smi_operator.proofs.Places.{not_here, place_found}
use Rattle.smi_operator.proofs.work.place_in_work.Goals as goal

pub returns-then-is_answered_by : goal.returns-then-is_answered_by
returns-then-is_answered_by c =
    place_found c.args.order c.args.mark c.args.work.now c.loop-place.place c.index-work-place.result
    c.is_answered_by.result c.loop-place-test.true c.index-work-place.is
    c.loop-place.invariant c.is_answered_by.ensures c.if-is_answered_by.true

pub loop-place-preserved : goal.loop-place-preserved
loop-place-preserved c =
    not_here c.args.order c.args.mark c.args.work.now c.loop-place.place c.index-work-place.result
    c.is_answered_by.result c.loop-place-test.true c.index-work-place.is
    c.loop-place.invariant c.is_answered_by.ensures c.if-is_answered_by.false
