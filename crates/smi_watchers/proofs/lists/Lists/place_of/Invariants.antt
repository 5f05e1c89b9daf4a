use Rattle.std.proofs.Common.{◌≡◌}
use Rattle.smi_watchers.specs.Walked.{steps_of, place_in}
use Rattle.smi_watchers.proofs.lists.Lists.place_of.Given as goal

abbrev pub invariant-loop-place : goal.invariant-loop-place
invariant-loop-place l = place_in l.station l.place-iterator ≡ place_in l.station (steps_of l.self l.object)
