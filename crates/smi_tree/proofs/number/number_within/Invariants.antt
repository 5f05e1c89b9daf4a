use Rattle.std.proofs.Common.{◌≡◌, ◌<◌, ◌^◌, take}
use Rattle.smi_tree.specs.Number.{decimal}
use Rattle.smi_tree.proofs.number.number_within.Given as goal

abbrev pub invariant-loop-digit : goal.invariant-loop-digit
invariant-loop-digit l =
    record { read : l.value ≡ decimal (take l.digit-index l.word); fits : l.value < 10 ^ l.digit-index }
