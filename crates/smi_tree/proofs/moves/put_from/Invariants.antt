use Rattle.std.proofs.Common.{◌≡◌, ℕ, ◌+◌, ◌-◌, vec_len}
use Rattle.smi_tree.specs.MoveIndex.{move_from}
use Rattle.smi_tree.proofs.moves.put_from.Given as goal

-- what is there stays there
abbrev pub invariant-loop-alloc : goal.invariant-loop-alloc
invariant-loop-alloc l = (state action : ℕ)
    → move_from l.by_state.items state action ≡ move_from l.fn.by_state.items state action

abbrev pub decreases-loop-alloc : goal.decreases-loop-alloc
decreases-loop-alloc l = l.place + 1 - vec_len l.by_state
