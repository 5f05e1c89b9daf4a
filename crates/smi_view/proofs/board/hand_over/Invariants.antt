use Rattle.std.proofs.Common.{◌≡◌, ◌++◌, drop, deque_len}
use Rattle.smi_view.proofs.board.hand_over.Given as goal

abbrev pub invariant-loop-entry : goal.invariant-loop-entry
invariant-loop-entry l =
    (l.writer.desk ≡ l.initial.writer.desk)
    × (drop l.writer.behind l.writer.log.items ++ l.waiting.items
    ≡ drop l.initial.writer.behind l.initial.writer.log.items ++ l.initial.waiting.items)
    × (l.growth.count ≡ l.initial.growth.count)

abbrev pub decreases-loop-entry : goal.decreases-loop-entry
decreases-loop-entry l = deque_len l.waiting
