use Rattle.std.proofs.Common.{◌≡◌, length}
use Rattle.smi_protocol.specs.Opening.{first_opened}
use Rattle.smi_world.specs.Posts.{ArePosts}
use Rattle.smi_world.proofs.opening.first_posts.Given as goal

abbrev pub invariant-loop-number : goal.invariant-loop-number
invariant-loop-number l = (length l.posts.items ≡ l.number) × ArePosts l.tree 1 l.posts.items (first_opened l.tree)
