use Rattle.std.proofs.Common.{length, ap, arith}
use Rattle.smi_station_display.proofs.Listing.{few_operators}
use Rattle.smi_station_display.proofs.displayed.Displayed.answer_askers.Goals as goal

pub answer-requires : goal.answer-requires
answer-requires c =
    let few = few_operators _ c.self.invariant.tree c.self.inside.number in
    let all = ap length c.operators-operators.ensures in
    omega (arith, c.loop-operator.invariant.few, c.loop-operator-test.true, all, few, c.requires.room)
