-- What the turns of a screen do, and how many there are.
use Rattle.std.specs.Prelude.{ℕ, ◌≡◌, ◌<◌, List, [], ◌∷◌, length, Option, Some, None, IfSome, Result, Ok, Err}
use Rattle.smi_screen.specs.Ending.{is_stopped}
use Rattle.smi_screen.specs.Looking.{Deed, DoesAll, Looks, Stepping, View}
use Rattle.smi_screen.specs.declared.screen.Ended.{Ended}

-- turns, the newest first, each with its deeds: the link is asked in each, and the station does not stop
abbrev pub MakesTurns : {T : Type 0} → Stepping T → ℕ → List (List (Deed × ℕ)) → View T → View T → Type 0
MakesTurns S operator [] before after = after ≡ before
MakesTurns {T} S operator (deeds ∷ turns) before after =
    (between : View T) × MakesTurns S operator turns before between × DoesAll S operator deeds between after
    × (between.link.receives < after.link.receives)

-- so many turns; those without end never end well
abbrev pub MakesAll : {T : Type 0} → Stepping T → ℕ → Option ℕ → View T → View T → Type 0
MakesAll S operator None before after = ⊥
MakesAll S operator (Some count) before after =
    (turns : List (List (Deed × ℕ))) × (length turns ≡ count) × MakesTurns S operator turns before after

-- all turns are made; or fewer are, and the next one ends with this fault
abbrev pub LooksFor : {T : Type 0} → Stepping T → ℕ → Option ℕ → View T → View T → Result (Unit {0}) Ended → Type 0
LooksFor S operator count before after (Ok u) = MakesAll S operator count before after
LooksFor {T} S operator count before after (Err e) =
    (turns : List (List (Deed × ℕ))) × IfSome count (λ n. length turns < n) × (between : View T)
    × MakesTurns S operator turns before between × Looks S operator between after (is_stopped e)
