use Rattle.std.proofs.Common.{◌≡◌, ◌++◌, length}
use Rattle.smi_tree.specs.Text.{words}
use Rattle.smi_disks.specs.Spoken.{spaced}
use Rattle.smi_disks.proofs.speaking.speak_words.Given as goal

-- what was said, and the words left, are the text that was there and all words
abbrev pub invariant-loop-cut : goal.invariant-loop-cut
invariant-loop-cut l = l.text.items ++ spaced (words l.rest) ≡ l.fn.text.items ++ spaced (words l.line)

abbrev pub decreases-loop-cut : goal.decreases-loop-cut
decreases-loop-cut l = length (words l.rest)
