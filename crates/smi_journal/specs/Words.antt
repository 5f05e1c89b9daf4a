-- The words of a journal's own lines.
use Rattle.std.specs.Prelude.{ℕ, ◌++◌, List, [], ◌∷◌}
use Rattle.std.specs.Fmt.{decimal}
use Rattle.smi_schedule.specs.TraceWords.{version_word}
use Rattle.smi_journal.specs.declared.line.JournalWord.{JournalWord}
use Rattle.smi_journal.specs.declared.line.JournalWord.TheVariants as word

-- what a word reads
abbrev pub word_text : JournalWord → List ℕ
word_text (word.Text bytes) = bytes.now
word_text (word.Number number) = decimal number
word_text (word.Version version) = version_word version

-- words, each after a blank
abbrev pub after_blanks : List (List ℕ) → List ℕ
after_blanks [] = []
after_blanks (w ∷ more) = 32 ∷ w ++ after_blanks more

-- what a line reads: its prefix, its first word, its further words, a line feed
abbrev pub line_text : List ℕ → List ℕ → List (List ℕ) → List ℕ
line_text prefix first words = prefix ++ first ++ after_blanks words ++ 10 ∷ []
