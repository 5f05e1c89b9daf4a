-- The numbers of the faults of a watch.
use Rattle.std.specs.Prelude.{ℕ}
use Rattle.smi_watchers.specs.declared.answer.WatchFault.{WatchFault}
use Rattle.smi_watchers.specs.declared.answer.WatchFault.TheVariants.{Full, Memory}

abbrev pub answer_code : WatchFault → ℕ
answer_code Full = 1
answer_code Memory = 2
