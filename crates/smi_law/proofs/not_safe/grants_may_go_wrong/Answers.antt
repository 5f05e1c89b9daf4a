use Rattle.std.proofs.Common.{ℕ, ◌≡◌, inl, inr, true, false, refl, arith}
use Rattle.smi_law.specs.Safe.{directly}
use Rattle.smi_law.specs.Trace.{epoch_at, holder_at, has_learned}
use Rattle.smi_law.proofs.not_safe.grants_may_go_wrong.Goals as goal

pub returns-clause-granted_twice : goal.returns-clause-granted_twice
unfolding epoch_at
returns-clause-granted_twice c = λ safe. let next : ◌≡◌ {A = ℕ} 1 2 = safe.grants.0.0 in omega (arith, next)

pub returns-clause-even_epoch : goal.returns-clause-even_epoch
returns-clause-even_epoch c = λ safe. let odd : ◌≡◌ {A = ℕ} 0 1 = safe.grants.0.1 in omega (arith, odd)

pub returns-clause-not_held : goal.returns-clause-not_held
unfolding epoch_at has_learned
returns-clause-not_held c = λ safe. let held : false ≡ true = safe.grants.0.1 in cc

pub returns-clause-freed_before_let_go : goal.returns-clause-freed_before_let_go
unfolding epoch_at holder_at
returns-clause-freed_before_let_go c = λ safe. elim safe.grants.0.2
    [ inl i ↦ cc | inr s ↦ elim s [ inl i ↦ cc | inr b ↦ b ] ]

pub returns-clause-learned_twice : goal.returns-clause-learned_twice
unfolding epoch_at
returns-clause-learned_twice c = λ safe. safe.grants.0.2 (inl refl)

pub returns-clause-granted_to_no_parent : goal.returns-clause-granted_to_no_parent
returns-clause-granted_to_no_parent c = λ safe. let parent = safe.grants.0.2 in cc

pub returns-clause-granted_to_a_stranger : goal.returns-clause-granted_to_a_stranger
returns-clause-granted_to_a_stranger c = λ safe. let home = safe.grants.0.2.1 in cc

pub returns-clause-two_commanders : goal.returns-clause-two_commanders
unfolding epoch_at has_learned
returns-clause-two_commanders c = λ safe. let one
    : ◌≡◌ {A = ℕ} 1 2 = safe.grants.1 2 1 2 (directly refl) (directly refl) in omega (arith, one)
