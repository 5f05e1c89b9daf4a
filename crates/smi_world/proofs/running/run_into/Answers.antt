use Rattle.smi_protocol.specs.Schedule.{first_world}
use Rattle.smi_world.proofs.Runs.{run_trace}
use Rattle.smi_world.proofs.running.run_into.Goals as goal

pub returns-in-Ok-clause-trace : goal.returns-in-Ok-clause-trace
returns-in-Ok-clause-trace c =
    run_trace c.run_on.result c.args.tree.now c.in-Ok.world.tree c.args.lines.now.items c.open_into.new.lines.items
    c.run_on.new.lines.items c.args.items.now c.in-Ok.ensures.tree c.in-Ok.ensures.lines
    (c.run_on.ensures.lines (first_world c.args.tree.now) c.in-Ok.ensures.opens)
