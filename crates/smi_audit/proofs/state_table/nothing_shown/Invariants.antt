use Rattle.std.proofs.Common.{◌≡◌}
use Rattle.std.specs.Prelude.{replicate}
use Rattle.smi_audit.specs.Tables.{unseen}
use Rattle.smi_audit.proofs.state_table.nothing_shown.Given as goal

abbrev pub invariant-loop-number : goal.invariant-loop-number
invariant-loop-number l = l.shown.items ≡ replicate l._number (replicate l.objects unseen)
