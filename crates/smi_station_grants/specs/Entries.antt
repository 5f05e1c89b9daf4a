-- Tables whose entries are counted from 1.
use Rattle.std.specs.Prelude.{ℕ, ◌-◌, ◌==◌, if◌then◌else◌, List}
use Rattle.std.specs.List.{slice_index_or}

-- what is at a number, or the default
abbrev pub entry_or : {X : Type 0} → List X → ℕ → X → X
entry_or xs number other = if number == 0 then other else slice_index_or xs (number - 1) other
