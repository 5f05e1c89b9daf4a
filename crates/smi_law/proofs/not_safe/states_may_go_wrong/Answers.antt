use Rattle.std.proofs.Common.{ℕ, ◌≡◌, inl, inr, true, false, refl, ap, arith}
use Rattle.smi_grant.specs.declared.Version.{Version}
use Rattle.smi_law.proofs.not_safe.states_may_go_wrong.Goals as goal

pub returns-clause-not_passed : goal.returns-clause-not_passed
returns-clause-not_passed c = λ safe. safe.states.0.0

pub returns-clause-twice : goal.returns-clause-twice
returns-clause-twice c = λ safe. let newer : false ≡ true = safe.states.0.2.0 refl refl in cc

pub returns-clause-older : goal.returns-clause-older
returns-clause-older c = λ safe. let newer : false ≡ true = safe.states.0.2.0 refl refl in cc

pub returns-clause-older_after_a_start : goal.returns-clause-older_after_a_start
returns-clause-older_after_a_start c = λ safe.
    elim (safe.states.0.1 (record { boot = 1; sequence = 1 }) 1 (inr (inl refl))) [
      | inl newer ↦ cc
      | inr same ↦ let sequence : ◌≡◌ {A = ℕ} 0 1 = ap (λ (v : Version). v.sequence) same in omega (arith, sequence)
    ]

pub returns-clause-goes_back : goal.returns-clause-goes_back
returns-clause-goes_back c = λ safe. let newer
    : false ≡ true = safe.states.0 (record { boot = 1; sequence = 1 }) 1 (inl refl) in cc
