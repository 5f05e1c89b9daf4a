use Rattle.smi_world.proofs.Opened.{posts_more}
use Rattle.smi_world.proofs.opening.first_posts.Goals as goal

pub loop-number-preserved : goal.loop-number-preserved
loop-number-preserved c =
    posts_more c.args.tree.now c.loop-number.number c.loop-number.posts.items c.push.new.self.items
    c.in_ok-first_post.field-0 c.in_ok-push.ensures.items c.loop-number.invariant.0 c.loop-number.invariant.1
    c.in_ok-first_post.ensures
