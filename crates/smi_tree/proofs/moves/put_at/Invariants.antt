use Rattle.std.proofs.Common.{◌≡◌, ℕ, ◌+◌, ◌-◌, vec_len}
use Rattle.smi_tree.specs.MoveIndex.{move_at}
use Rattle.smi_tree.proofs.moves.put_at.Given as goal

-- what is there stays there
abbrev pub invariant-loop-alloc : goal.invariant-loop-alloc
invariant-loop-alloc l =
    (class state action : ℕ) → move_at l.by_class.items class state action
    ≡ move_at l.fn.by_class.items class state action

abbrev pub decreases-loop-alloc : goal.decreases-loop-alloc
decreases-loop-alloc l = l.place + 1 - vec_len l.by_class
