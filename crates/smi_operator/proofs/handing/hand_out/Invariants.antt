use Rattle.std.proofs.Common.{◌≡◌, ◌≤◌, ◌+◌, ◌++◌, length}
use Rattle.rtrb.specs.Ring.{sent, known_free, SameProducer}
use Rattle.smi_operator.specs.Working.{handed_out, still_in_work}
use Rattle.smi_operator.proofs.handing.hand_out.Given as goal

abbrev pub decreases-loop-told : goal.decreases-loop-told
decreases-loop-told l = length l.work.items

abbrev pub invariant-loop-told : goal.invariant-loop-told
invariant-loop-told l =
    SameProducer l.initial.answers l.answers
    × (sent l.answers ++ handed_out l.work.items ≡ sent l.initial.answers ++ handed_out l.initial.work.items)
    × (still_in_work l.work.items ≡ still_in_work l.initial.work.items)
    × (length l.work.items ≤ known_free l.answers)
    × (known_free l.answers + length (handed_out l.initial.work.items) ≡ known_free l.initial.answers
    + length (handed_out l.work.items))
