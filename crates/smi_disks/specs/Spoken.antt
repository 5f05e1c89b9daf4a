-- What a tree file says, but for how it is laid out and where its stations stand.
use Rattle.std.specs.Prelude.{ℕ, Bool, List, [], ◌∷◌, ◌++◌, codes, take, if◌then◌else◌}
use Rattle.std.specs.Str.{bytes_eq}
use Rattle.std.specs.Str.Lines.{lines}
use Rattle.smi_tree.specs.File.{is_comment}
use Rattle.smi_tree.specs.Text.{words}

-- the word with which the line of a station begins
abbrev pub is_station : List ℕ → Bool
is_station word = bytes_eq word (codes "station")

-- words, each with a blank behind it
abbrev pub spaced : List (List ℕ) → List ℕ
spaced [] = []
spaced (word ∷ more) = (word ++ 32 ∷ []) ++ spaced more

-- the words of a line and a line feed: of a station its name and not its address, and of a comment nothing
abbrev pub words_spoken : List (List ℕ) → List ℕ
words_spoken [] = []
words_spoken (word ∷ more) =
    if is_comment word then []
    else (if is_station word then spaced (word ∷ take 1 more) ++ 10 ∷ []
    else spaced (word ∷ more) ++ 10 ∷ [])

abbrev pub line_spoken : List ℕ → List ℕ
line_spoken line = words_spoken (words line)

-- what the lines say, one after the other
abbrev pub lines_spoken : List (List ℕ) → List ℕ
lines_spoken [] = []
lines_spoken (line ∷ more) = line_spoken line ++ lines_spoken more

abbrev pub spoken : List ℕ → List ℕ
spoken file = lines_spoken (lines file)
