-- Commands that are pending, and the places in which they lie.
use Rattle.std.specs.Prelude.{ℕ, ◌≡◌, ◌≤◌, ◌-◌, ◌++◌, List, length, take, drop, replicate}
use Rattle.std.proofs.Common.{ap, ◌∙◌, sym, take-append-drop, length-take-le, arith}
use Rattle.smi_command.specs.declared.pending.TheConstants.{MOST_PENDING}
use Rattle.smi_grant.specs.declared.command.Command.{Command}
use Rattle.smi_grant.specs.declared.command.Command.TheVariants.{Do}

-- how many commands of a grant may be pending at a time
abbrev pub most_pending : ℕ
most_pending = MOST_PENDING

-- the number before the oldest pending command's, if the newest command has this number
abbrev pub base_of : ℕ → List Command → ℕ
base_of n p = n - length p

-- what is in the places that no command has
abbrev pub unused : ℕ → List Command
unused n = replicate n (Do 0)

-- the commands lie in the first places, and nothing in the others
pub record IsStored (places : List Command) (count : ℕ) : Type 0 where
  pub all : length places ≡ most_pending
  pub within : count ≤ most_pending
  pub rest : drop count places ≡ unused (most_pending - count)

pub stored_count : (places : List Command) (count : ℕ) → IsStored places count → length (take count places) ≡ count
stored_count places count s = length-take-le count places (omega (arith, s.all, s.within))

-- the commands and the places that they leave are all the places
pub stored_places : (places : List Command) (count : ℕ) → IsStored places count
    → take count places ++ unused (most_pending - length (take count places)) ≡ places
stored_places places count s =
    ap (λ n. take count places ++ unused (most_pending - n)) (stored_count places count s)
    ∙ ap (λ xs. take count places ++ xs) (sym s.rest)
    ∙ take-append-drop count places
