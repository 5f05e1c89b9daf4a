use Rattle.std.proofs.Common.{◌≡◌, ℕ, ◌+◌, ◌-◌, vec_len}
use Rattle.smi_tree.specs.DeviceCounts.{count_at}
use Rattle.smi_tree.proofs.devices.count_up.Given as goal

-- what is counted is counted still
abbrev pub invariant-loop-counts : goal.invariant-loop-counts
invariant-loop-counts l = (other : ℕ) → count_at l.counts.items other ≡ count_at l.fn.counts.items other

abbrev pub decreases-loop-counts : goal.decreases-loop-counts
decreases-loop-counts l = l.place + 1 - vec_len l.counts
