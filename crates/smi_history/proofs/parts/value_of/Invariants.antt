use Rattle.std.proofs.Common.{◌≡◌, option_map, length, suc, zero}
use Rattle.std.specs.Option.{option_map_or}
use Rattle.smi_history.specs.Parts.{parts_left, first_value, value_of}
use Rattle.smi_history.proofs.parts.value_of.Given as goal

-- so far no part had the key
abbrev pub invariant-loop-left : goal.invariant-loop-left
invariant-loop-left l =
    value_of l.key l.query ≡ first_value l.key (parts_left 38 (option_map (λ rest. rest.now) l.left))

abbrev pub decreases-loop-left : goal.decreases-loop-left
decreases-loop-left l = option_map_or (λ rest. suc (length rest.now)) l.left zero
