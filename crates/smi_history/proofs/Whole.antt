-- A line before others has an end.
use Rattle.std.proofs.Common.{◌≡◌, ◌∷◌, ℕ, List, refl}
use Rattle.std.specs.Prelude.{◌==◌}
use Rattle.smi_history.specs.Lines.{whole}
use Rattle.smi_history.specs.Parts.{parts}
use Rattle.smi_history.proofs.Cuts.{slice_split-front}

pub whole_more : (line : List ℕ) (mark : ℕ) (more : List ℕ)
    → whole (line ∷ parts mark more) ≡ line ∷ whole (parts mark more)
whole_more line mark more = rw (slice_split-front (λ byte. byte == mark) more) refl
