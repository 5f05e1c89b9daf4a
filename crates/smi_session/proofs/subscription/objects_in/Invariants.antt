use Rattle.std.proofs.Common.{◌≡◌, ◌++◌, length}
use Rattle.smi_tree.specs.Text.{words}
use Rattle.smi_session.specs.Subscription.{objects_in}
use Rattle.smi_session.proofs.subscription.objects_in.Given as goal

-- the objects so far, and those that what is left names
abbrev pub invariant-loop-word : goal.invariant-loop-word
invariant-loop-word l = l.objects.items ++ objects_in l.tree (words l.left) ≡ objects_in l.tree (words l.text)

abbrev pub decreases-loop-word : goal.decreases-loop-word
decreases-loop-word l = length (words l.left)
