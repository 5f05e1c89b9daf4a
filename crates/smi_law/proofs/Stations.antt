-- What holds of one station that changed and of each other one holds of all.
use Rattle.std.proofs.Common.{ℕ, ◌≡◌, false, inl, inr, sym, subst, arith}
use Rattle.std.specs.Prelude.{◌==◌}
use Rattle.std.proofs.lemmas.Bool.{eqb-true}
use Rattle.std.proofs.lemmas.Bool.Decides.{nat_tests}
use Rattle.smi_grant.proofs.Holders.{either}
use Rattle.smi_protocol.specs.Display.{Station}
use Rattle.smi_protocol.specs.Grants.{put}

pub at_stations : (stations : ℕ → Station) (number : ℕ) (s : Station) (P : ℕ → Station → Type 0) → P number s
    → ((m : ℕ) → (m ≡ number → ⊥) → P m (stations m)) → (m : ℕ) → P m (put stations number s m)
at_stations stations number s P here there m = elim (either (m == number)) [
  | inl t ↦ rw t (subst (λ z. P z s) (sym (eqb-true m number t)) here)
  | inr f ↦ rw f (there m (other m f))
]
  where
    other : (k : ℕ) → (k == number) ≡ false → k ≡ number → ⊥
    other k f i = grind (arith, nat_tests)
