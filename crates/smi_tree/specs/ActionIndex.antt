-- The accepted actions by number.
use Rattle.std.specs.Prelude.{ℕ, ◌≡◌, ◌==◌, nat_eq, List}
use Rattle.std.specs.List.{list_any}
use Rattle.std.specs.declared.hash.FoldHasher.{FoldHasher}
use Rattle.std.specs.declared.hash.BuildHasherDefault.{BuildHasherDefault}
use Rattle.std.specs.HashSet.{contains, HashSet}

pub record IsActionIndex (rows : List ℕ) (index : HashSet ℕ (BuildHasherDefault FoldHasher)) : Type 0 where
  pub found : (action : ℕ) → contains nat_eq index action ≡ list_any (λ other. other == action) rows
