use Rattle.std.proofs.Common.{◌≡◌, bytes_eq, option_map, length, suc, zero}
use Rattle.std.specs.List.{list_any}
use Rattle.std.specs.Option.{option_map_or}
use Rattle.smi_history.specs.Parts.{parts_left, has_word}
use Rattle.smi_history.proofs.parts.has_word.Given as goal

-- so far no part was the word
abbrev pub invariant-loop-left : goal.invariant-loop-left
invariant-loop-left l =
    has_word l.text l.word
    ≡ list_any (λ one. bytes_eq one l.word) (parts_left 32 (option_map (λ rest. rest.now) l.left))

abbrev pub decreases-loop-left : goal.decreases-loop-left
decreases-loop-left l = option_map_or (λ rest. suc (length rest.now)) l.left zero
