use Rattle.std.proofs.Common.{◌≡◌, ◌++◌, drop, map}
use Rattle.smi_journal.specs.Words.{after_blanks, word_text}
use Rattle.smi_journal.proofs.line.push_words.Given as goal

-- the words so far, and those that are left, are all
abbrev pub invariant-loop-word : goal.invariant-loop-word
invariant-loop-word l = l.text.items ++ after_blanks (map word_text (drop l.word-index l.words))
    ≡ l.fn.text.items ++ after_blanks (map word_text l.words)
