use Rattle.std.proofs.Common.{◌≡◌, ◌∷◌, []}
use Rattle.smi_history.specs.Looking.{each, is_silent_in}
use Rattle.smi_history.proofs.looking.put_silences.Given as goal

-- those so far are there
abbrev pub invariant-loop-place : goal.invariant-loop-place
invariant-loop-place l =
    l.silent.items ≡ each (λ d. is_silent_in l.looking.picture.now l.looking.moment d ∷ []) l.place
