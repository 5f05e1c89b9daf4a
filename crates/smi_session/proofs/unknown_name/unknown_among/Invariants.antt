use Rattle.std.proofs.Common.{◌≡◌, length}
use Rattle.smi_tree.specs.Text.{words}
use Rattle.smi_session.specs.UnknownName as spec
use Rattle.smi_session.proofs.unknown_name.unknown_among.Given as goal

-- what is left decides, since all before is known
abbrev pub invariant-loop-word : goal.invariant-loop-word
invariant-loop-word l =
    spec.unknown_among l.tree l.operators l.kind (words l.text)
    ≡ spec.unknown_among l.tree l.operators l.kind (words l.left)

abbrev pub decreases-loop-word : goal.decreases-loop-word
decreases-loop-word l = length (words l.left)
