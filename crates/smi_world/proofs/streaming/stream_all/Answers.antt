use Rattle.smi_protocol.specs.Schedule.{first_world}
use Rattle.smi_world.proofs.Begun.{done_behind, front_behind, opening_of_any, read_behind, whole_behind}
use Rattle.smi_world.proofs.streaming.stream_all.Goals as goal

pub returns-in-Ok-new-clause-done : goal.returns-in-Ok-new-clause-done
returns-in-Ok-new-clause-done g c =
    done_behind c.in-Ok-new.world.tree c.args.tree.now _ _ _ c.in-Ok-new.ensures.tree c.in-Ok.ensures.all _ _
    (c.stream_on.ensures.done (first_world c.args.tree.now) c.in-Ok-new.ensures.opens)

pub returns-in-Ok-new-clause-whole : goal.returns-in-Ok-new-clause-whole
returns-in-Ok-new-clause-whole g c =
    whole_behind c.in-Ok-new.world.tree c.args.tree.now _ _ _ c.in-Ok-new.ensures.tree c.in-Ok.ensures.all _ _
    (c.stream_on.ensures.whole (first_world c.args.tree.now) c.in-Ok-new.ensures.opens)

pub returns-in-Ok-new-clause-read : goal.returns-in-Ok-new-clause-read
returns-in-Ok-new-clause-read g c =
    read_behind c.in-Ok-new.world.tree c.args.tree.now _ _ _ c.in-Ok-new.ensures.tree c.in-Ok.ensures.all _ _ _
    (c.stream_on.ensures.read (first_world c.args.tree.now) c.in-Ok-new.ensures.opens)

pub returns-in-Ok-new-clause-prefix : goal.returns-in-Ok-new-clause-prefix
returns-in-Ok-new-clause-prefix g c =
    front_behind c.in-Ok-new.world.tree c.args.tree.now _ _ _ c.in-Ok-new.ensures.tree c.in-Ok.ensures.all _
    (c.stream_on.ensures.prefix (first_world c.args.tree.now) c.in-Ok-new.ensures.opens)

pub returns-in-Ok-clause-prefix : goal.returns-in-Ok-clause-prefix
returns-in-Ok-clause-prefix g c = opening_of_any c.args.tree.now _ _ (g.R.Read.remaining c.args.reader.now)
    c.write_opening.ensures.prefix

pub returns-clause-prefix : goal.returns-clause-prefix
returns-clause-prefix g c = opening_of_any c.args.tree.now _ _ (g.R.Read.remaining c.args.reader.now)
    c.write_opening.ensures.prefix
