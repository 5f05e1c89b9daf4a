use Rattle.std.proofs.Common.{◌≡◌, length}
use Rattle.smi_tree.specs.Text.{words}
use Rattle.smi_session.specs.Request as spec
use Rattle.smi_session.proofs.request.may_name_all.Given as goal

-- what is left decides, since all before may be named
abbrev pub invariant-loop-word : goal.invariant-loop-word
invariant-loop-word l =
    spec.may_name_all l.tree l.query (words l.text)
    ≡ spec.may_name_all l.tree l.query (words l.left)

abbrev pub decreases-loop-word : goal.decreases-loop-word
decreases-loop-word l = length (words l.left)
