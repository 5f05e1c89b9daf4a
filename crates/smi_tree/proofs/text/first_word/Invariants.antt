use Rattle.std.proofs.Common.{◌≡◌, drop}
use Rattle.smi_tree.specs.Text.{words}
use Rattle.smi_tree.proofs.text.first_word.Given as goal

-- so far there were blanks alone
abbrev pub invariant-loop-start : goal.invariant-loop-start
invariant-loop-start l = words (drop l.start l.line) ≡ words l.line
