use Rattle.smi_watchers.specs.Watching.{entries_of}
use Rattle.smi_watchers.specs.Kept.{lists_of}
use Rattle.smi_watchers.proofs.Leaving.{IsLeaving}
use Rattle.smi_watchers.proofs.watchers.Watchers.clear.Given as goal

abbrev pub invariant-loop-place : goal.invariant-loop-place
invariant-loop-place l = IsLeaving l.station l.initial.self-inside.lists l.self-inside.lists l.self-inside.visits

abbrev pub decreases-loop-place : goal.decreases-loop-place
decreases-loop-place l = entries_of l.station (lists_of l.self-inside.lists)
