use Rattle.std.proofs.Common.{ap, length, arith}
use Rattle.smi_command.specs.Pending.{stored_count}
use Rattle.smi_command.proofs.Stored.{room_left}
use Rattle.smi_command.proofs.pending.Pending.without_oldest.Goals as goal

pub push-requires : goal.push-requires
push-requires c =
    let places = c.self.inside in
    let count = stored_count places.commands places.count c.self.invariant in
    let same = ap length c.self.view_is in
    room_left c.loop-i.left c.args.self.now c.loop-i.i c.args.gone
    (omega (arith, count, same, c.self.invariant.within)) (omega (arith, count, same, c.loop-i-test.true))
    c.loop-i.invariant
