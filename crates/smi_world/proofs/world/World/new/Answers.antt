use Rattle.smi_world.proofs.Reached.{first_reached}
use Rattle.smi_world.proofs.world.World.new.Goals as goal

pub invariant_of-result : goal.invariant_of-result
invariant_of-result c = first_reached c.args.tree.now c.in-Ok.posts.items c.new.result.items c.in-Ok.ensures.count
    c.in-Ok.ensures.posts c.new.ensures.items
