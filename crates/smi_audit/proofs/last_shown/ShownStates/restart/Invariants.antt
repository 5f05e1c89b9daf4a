use Rattle.std.proofs.Common.{◌≡◌}
use Rattle.smi_audit.specs.Tables.{seen_before}
use Rattle.smi_audit.proofs.Listing.{so_far}
use Rattle.smi_audit.proofs.last_shown.ShownStates.restart.Given as goal

abbrev pub invariant-loop-shown : goal.invariant-loop-shown
invariant-loop-shown l = l.shown-items ≡ so_far seen_before l.initial.shown-items l.shown-index
