-- What a store over SQL shows.
use Rattle.std.specs.Prelude.{ℕ, Bool, refl}
use Rattle.std.specs.Coded.{Coded, code_by, coded×, coded_bool, coded_ℕ}
use Rattle.sqlite.specs.Held.{Held, held_code}

-- the connection, as it is and as it was taken over, whether it is shut, and the counts
pub record Kept (S : Type 0) : Type 0 where
  pub held : Held S
  pub is_shut : Bool
  pub begun : Held S
  pub saves : ℕ
  pub failures : ℕ

abbrev pub kept_code : {S : Type 0} → Coded S → Coded (Kept S)
kept_code {S} store =
    code_by ((Held S × Held S) × (Bool × (ℕ × ℕ))) (coded× (coded× (held_code store) (held_code store))
    (coded× coded_bool (coded× coded_ℕ coded_ℕ)))
    (λ k. ((k.held, k.begun), (k.is_shut, (k.saves, k.failures))))
    (λ p. record { held = p.0.0; begun = p.0.1; is_shut = p.1.0; saves = p.1.1.0; failures = p.1.1.1 }) (λ _. refl)
