use Rattle.std.proofs.Common.{arith}
use Rattle.smi_schedule.specs.Drawn.{schedule_drawn}
use Rattle.smi_schedule.proofs.Draws.{drawn_on, drawn_all}
use Rattle.smi_schedule.proofs.draw.draw_schedule.Goals as goal

pub loop-preserved : goal.loop-preserved
loop-preserved c =
    drawn_on c.args.tree.now c.args.steps c.loop.counter c.loop.drawer c.draw.new.self c.loop.items.items
    c.push.new.self.items (schedule_drawn c.args.tree.now c.args.seed c.args.steps) c.draw.result
    (omega arith) c.draw.ensures.item c.draw.ensures.after c.in_ok-push.ensures.items c.loop.invariant

pub returns : goal.returns
returns c =
    drawn_all c.args.tree.now c.args.steps c.loop.counter c.loop.drawer c.loop.items.items
    (schedule_drawn c.args.tree.now c.args.seed c.args.steps) (omega arith) c.loop.invariant
