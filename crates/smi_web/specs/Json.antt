-- What all texts are put together from.
use Rattle.std.specs.Prelude.{ℕ, zero, suc, ◌++◌, ◌==◌, if◌then◌else◌, Bool, true, false, List, [], codes}

-- in quotes
abbrev pub quoted : List ℕ → List ℕ
quoted name = codes "\"" ++ name ++ codes "\""

-- whether something is so
unfoldable pub flag : Bool → List ℕ
flag true = codes "true"
flag false = codes "false"

-- what comes before a text that this many others precede
abbrev pub separator : List ℕ → ℕ → List ℕ
separator between place = if place == 0 then [] else between

-- the texts of the numbers from 1 on, this many, with the same between two of them
abbrev pub listed : List ℕ → (ℕ → List ℕ) → ℕ → List ℕ
listed between text zero = []
listed between text (suc n) = listed between text n ++ separator between n ++ text (suc n)
