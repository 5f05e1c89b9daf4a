use Rattle.std.proofs.Common.{◌≡◌, ℕ, ◌<◌, false, get_or}
use Rattle.smi_tree.specs.Text.{cuts}
use Rattle.smi_tree.proofs.text.length_before.Given as goal

-- no mark is before this place
abbrev pub invariant-loop-place : goal.invariant-loop-place
invariant-loop-place l = (k : ℕ) → k < l.place → cuts l.mark (get_or l.text k 0) ≡ false
