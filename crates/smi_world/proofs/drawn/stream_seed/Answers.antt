use Rattle.smi_protocol.specs.Schedule.{first_world}
use Rattle.smi_schedule.specs.Drawn.{schedule_drawn}
use Rattle.smi_world.proofs.Begun.{opening_front}
use Rattle.smi_world.proofs.Drawing.{seeded_all, seeded_front}
use Rattle.smi_world.proofs.drawn.stream_seed.Goals as goal

pub returns-in-Ok-new-clause-all : goal.returns-in-Ok-new-clause-all
returns-in-Ok-new-clause-all g c =
    seeded_all c.in-Ok-new.world.tree c.args.tree.now c.new-in-Ok-new.result c.args.seed c.args.steps _ _ _
    c.in-Ok-new.ensures.tree c.new-in-Ok-new.ensures c.in-Ok.ensures.all _ _ _
    (c.stream_items.ensures.all (first_world c.args.tree.now) c.in-Ok-new.ensures.opens)

pub returns-in-Ok-new-clause-prefix : goal.returns-in-Ok-new-clause-prefix
returns-in-Ok-new-clause-prefix g c =
    seeded_front c.in-Ok-new.world.tree c.args.tree.now c.new-in-Ok-new.result c.args.seed c.args.steps _ _ _
    c.in-Ok-new.ensures.tree c.new-in-Ok-new.ensures c.in-Ok.ensures.all
    (c.stream_items.ensures.prefix (first_world c.args.tree.now) c.in-Ok-new.ensures.opens)

pub returns-in-Ok-clause-prefix : goal.returns-in-Ok-clause-prefix
returns-in-Ok-clause-prefix g c = opening_front c.args.tree.now _ _
    (schedule_drawn c.args.tree.now c.args.seed c.args.steps) c.write_opening.ensures.prefix

pub returns-clause-prefix : goal.returns-clause-prefix
returns-clause-prefix g c = opening_front c.args.tree.now _ _
    (schedule_drawn c.args.tree.now c.args.seed c.args.steps) c.write_opening.ensures.prefix
