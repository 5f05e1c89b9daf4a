-- One text more in a list of texts.
use Rattle.std.proofs.Common.{◌≡◌, ◌+◌, ◌++◌, ℕ, suc, List, refl, subst, arith}
use Rattle.smi_web.specs.Json.{listed, separator}

pub listed_next : (between : List ℕ) (text : ℕ → List ℕ) (n : ℕ)
    → listed between text (n + 1) ≡ listed between text n ++ separator between n ++ text (n + 1)
listed_next between text n =
    subst (λ m. listed between text m ≡ listed between text n ++ separator between n ++ text m) (later n) refl
  where
    later : (n : ℕ) → suc n ≡ n + 1
    later n = omega arith
