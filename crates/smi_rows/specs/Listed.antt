-- Rows in a list by rising key.
use Rattle.std.specs.Prelude.{ℕ, ◌+◌, Bool, List, [], ◌∷◌, Option, Some, None, if◌then◌else◌}
use Rattle.smi_rows.specs.declared.key.Key.{Key}
use Rattle.smi_rows.specs.Store.{Saved, saved, is_before, same_key, rises, rises_after}

-- the place of a key: how many rows precede it
abbrev pub place_of : Key → List Saved → ℕ
place_of key [] = 0
place_of key (r ∷ more) = if is_before r.key key then place_of key more + 1 else 0

-- the list with the row of this key replaced, or put in its place
abbrev pub put : Key → List ℕ → List Saved → List Saved
put key bytes [] = saved key bytes ∷ []
put key bytes (r ∷ more) =
    if is_before r.key key then r ∷ put key bytes more
    else (if same_key r.key key then saved key bytes ∷ more else saved key bytes ∷ r ∷ more)

-- the keys rise, from this one on if there is one
abbrev pub rises_from : Option Key → List Saved → Bool
rises_from None xs = rises xs
rises_from (Some key) xs = rises_after key xs

-- what a store in memory shows
pub record InMemory : Type 0 where
  pub list : List Saved
  pub saves : ℕ
