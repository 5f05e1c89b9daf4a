use Rattle.std.proofs.Common.{◌≡◌, replicate, None}
use Rattle.smi_view.proofs.view.View.new.Given as goal

abbrev pub invariant-loop : goal.invariant-loop
invariant-loop l = l.table.items ≡ replicate l.counter None
