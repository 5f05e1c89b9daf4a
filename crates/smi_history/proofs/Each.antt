-- One number more.
use Rattle.std.proofs.Common.{◌≡◌, ◌+◌, ◌++◌, ℕ, suc, List, refl, subst, arith}
use Rattle.smi_history.specs.Looking.{each}

pub each_next : {A : Type 0} (f : ℕ → List A) (n : ℕ) → each f (n + 1) ≡ each f n ++ f (n + 1)
each_next f n = subst (λ m. each f m ≡ each f n ++ f m) (later n) refl
  where
    later : (n : ℕ) → suc n ≡ n + 1
    later n = omega arith
