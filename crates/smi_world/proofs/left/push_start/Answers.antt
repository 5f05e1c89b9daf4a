use Rattle.smi_publish.specs.Published.{shown_at}
use Rattle.smi_publish.specs.Publishing.{first_condition}
use Rattle.smi_world.proofs.Starting.{started_on}
use Rattle.smi_world.proofs.left.push_start.Goals as goal

pub loop-object-preserved : goal.loop-object-preserved
loop-object-preserved c =
    started_on (shown_at c.args.boot (first_condition c.args.tree.now c.args.station)) c.object_count-count.result
    c.loop-object.object c.loop-object.lines.items c.push_shown.new.lines.items _ c.first_shown.result
    c.loop-object-test.true c.first_shown.ensures c.in_ok-push_shown.ensures c.loop-object.invariant
