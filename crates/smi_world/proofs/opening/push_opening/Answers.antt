use Rattle.smi_world.proofs.Opened.{opening_on}
use Rattle.smi_world.proofs.opening.push_opening.Goals as goal

pub loop-number-preserved : goal.loop-number-preserved
loop-number-preserved c =
    opening_on c.args.tree.now c.station_count-count.result c.loop-number.number c.loop-number.lines.items
    c.push_start.new.lines.items _ c.loop-number-test.true c.in_ok-push_start.ensures c.loop-number.invariant
