use Rattle.smi_world.proofs.Reached.{still_reached}
use Rattle.smi_world.proofs.world.World.act.Goals as goal

pub invariant_of-self-2 : goal.invariant_of-self-2
invariant_of-self-2 c =
    let was = c.self.invariant in
    still_reached c.self.inside.tree.now c.station_count-stations.ensures.tree was.past was.world was.reached
    c.act_at.result c.self.inside.posts.items c.act_at.new.posts.items c.self.inside.sent.items
    c.act_at.new.sent.items c.act_at.new.left c.args.item.now
    was.is c.act_at.ensures.count (c.act_at.ensures.makes was.world was.is) (c.act_at.ensures.halts was.world was.is)
