use Rattle.std.proofs.Common.{◌≡◌, ℕ, ◌+◌, ◌-◌, vec_len}
use Rattle.smi_tree.specs.MoveIndex.{move_by}
use Rattle.smi_tree.proofs.moves.put_by.Given as goal

-- what is there stays there
abbrev pub invariant-loop-by_action : goal.invariant-loop-by_action
invariant-loop-by_action l = (action : ℕ) → move_by l.by_action.items action ≡ move_by l.fn.by_action.items action

abbrev pub decreases-loop-by_action : goal.decreases-loop-by_action
decreases-loop-by_action l = l.place + 1 - vec_len l.by_action
