use Rattle.std.proofs.Common.{◌≡◌, option_map, length, suc, zero}
use Rattle.std.specs.Option.{option_map_or}
use Rattle.smi_history.specs.Lines.{lines_noted, whole}
use Rattle.smi_history.specs.Parts.{parts_left}
use Rattle.smi_history.proofs.history.History.take_lines.Given as goal

-- what the lines left make of it is what all make
abbrev pub invariant-loop-left : goal.invariant-loop-left
invariant-loop-left l =
    lines_noted l.self (whole (parts_left 10 (option_map (λ rest. rest.now) l.left)))
    ≡ lines_noted l.initial.self (whole (parts_left 10 (option_map (λ rest. rest.now) l.initial.left)))

abbrev pub decreases-loop-left : goal.decreases-loop-left
decreases-loop-left l = option_map_or (λ rest. suc (length rest.now)) l.left zero
