-- How the bytes of a tree file are cut: into lines, a line into words, an address at its dots.
use Rattle.std.specs.Prelude.{ℕ, ◌==◌, ◌||◌, Bool, true, false, not, List, [], ◌∷◌, filter}
use Rattle.std.specs.List.{slice_split}
use Rattle.smi_tree.specs.declared.text.Separator.{Separator}
use Rattle.smi_tree.specs.declared.text.Separator.TheVariants.{Blank, Dot, Colon}

abbrev pub is_line_feed : ℕ → Bool
is_line_feed b = b == 10

-- the bytes at which a line is cut: blank or tab, a dot, a colon
abbrev pub cuts : Separator → ℕ → Bool
cuts Blank b = b == 32 || b == 9
cuts Dot b = b == 46
cuts Colon b = b == 58

abbrev pub is_empty : List ℕ → Bool
is_empty [] = true
is_empty (b ∷ bs) = false

-- the words of a line: what is between blanks
abbrev pub words : List ℕ → List (List ℕ)
words line = filter (λ word. not (is_empty word)) (slice_split (cuts Blank) line)
