use Rattle.std.proofs.Common.{◌≡◌, replicate, None}
use Rattle.smi_view.proofs.picture.Picture.new.Given as goal

abbrev pub invariant-loop : goal.invariant-loop
invariant-loop l = l.seen.items ≡ replicate l.counter None

abbrev pub invariant-loop-2 : goal.invariant-loop-2
invariant-loop-2 l = l.heard.items ≡ replicate l.counter None
