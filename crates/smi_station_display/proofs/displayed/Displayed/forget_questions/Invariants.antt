use Rattle.std.proofs.Common.{◌≡◌}
use Rattle.smi_station_display.specs.Listening.{forgotten}
use Rattle.smi_station_display.proofs.Listing.{so_far}
use Rattle.smi_station_display.proofs.displayed.Displayed.forget_questions.Given as goal

-- the questions so far are forgotten
abbrev pub invariant-loop-asked : goal.invariant-loop-asked
invariant-loop-asked l = l.asked-items ≡ so_far (forgotten l.domain) l.initial.asked-items l.asked-index
