use Rattle.std.proofs.Common.{◌≡◌, None}
use Rattle.std.specs.Prelude.{replicate, false}
use Rattle.smi_station_display.proofs.displayed.Displayed.new.Given as goal

abbrev pub invariant-loop : goal.invariant-loop
invariant-loop l = l.named.items ≡ replicate l.counter false

abbrev pub invariant-loop-2 : goal.invariant-loop-2
invariant-loop-2 l = l.echoes.items ≡ replicate l.counter 0

abbrev pub invariant-loop-3 : goal.invariant-loop-3
invariant-loop-3 l = l.asks.items ≡ replicate l.counter None
