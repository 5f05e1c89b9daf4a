-- The mode of each child that the console told.
use Rattle.std.specs.Prelude.{ℕ, nat_lt, nat_le, ◌==◌, ◌&&◌, ◌++◌, Bool, List, [], ◌∷◌, length, codes}
use Rattle.std.specs.Prelude.{if◌then◌else◌}
use Rattle.std.specs.List.{list_all, starts_with}
use Rattle.std.specs.Option.{option_map_or}
use Rattle.smi_history.specs.Text.{is_plain}
use Rattle.smi_history.specs.Text.{rest_of}

-- a child and its mode each: those of the last whole answer, and those that have come of the answer under way
pub record ModeListState : Type 0 where
  pub known : List (List ℕ)
  pub coming : List (List ℕ)

abbrev pub most_modes : ℕ
most_modes = 256

abbrev pub most_bytes : ℕ
most_bytes = 200

abbrev pub nothing : ModeListState
nothing = record { known = []; coming = [] }

-- the next answer begins
abbrev pub begun : ModeListState → ModeListState
begun m = record m { coming = [] }

-- not too many have come, and it is short and plain
abbrev pub can_keep : ModeListState → List ℕ → Bool
can_keep m mode =
    nat_lt (length m.coming) most_modes && (nat_le (length mode) most_bytes && list_all is_plain mode)

abbrev pub with_mode : ModeListState → List ℕ → ModeListState
with_mode m mode = if can_keep m mode then record m { coming = m.coming ++ mode ∷ [] } else m

-- what has come is what is known
abbrev pub ended : ModeListState → ModeListState
ended m = record { known = m.coming; coming = [] }

-- a line of the answer is heard: `mode` and then a child's mode, or `modes` and their number at the end
abbrev pub told : ModeListState → List ℕ → ModeListState
told m text =
    option_map_or (with_mode m) (rest_of (codes "mode ") text)
    (if starts_with (λ a b. a == b) text (codes "modes ") then ended m else m)
