-- Whose seats they are if each operator has seven.
use Rattle.std.specs.Prelude.{ℕ, List, [], ◌∷◌}

-- each operator has seven seats, one after the other
abbrev pub by_seat : List ℕ → List ℕ
by_seat [] = []
by_seat (o ∷ more) = o ∷ o ∷ o ∷ o ∷ o ∷ o ∷ o ∷ by_seat more
