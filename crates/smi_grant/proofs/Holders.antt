-- Holders are told apart, and a holder that is not nobody makes an epoch odd.
use Rattle.std.proofs.Common.{ℕ, ◌≡◌, Bool, true, false, ◌⊎◌, inl, inr, refl, sym, ap, ◌∙◌, arith}
use Rattle.std.specs.Prelude.{◌==◌}
use Rattle.std.proofs.lemmas.Bool.Decides.{nat_tests}
use Rattle.smi_grant.specs.declared.holder.Holder.{Holder}
use Rattle.smi_grant.specs.declared.holder.Holder.TheVariants.{Free, Operator, Domain}
use Rattle.smi_grant.specs.Holder.{is_free, same_holder, odd_of}

pub either : (b : Bool) → (b ≡ true) ⊎ (b ≡ false)
either true = inl refl
either false = inr refl

numbers : (m n : ℕ) → ((m == n) ≡ true) × (m ≡ n) ⊎ ((m == n) ≡ false) × (m ≡ n → ⊥)
numbers m n = grind (arith, nat_tests)

-- the test of two holders says whether they are one
pub told_apart : (g h : Holder) → ((same_holder g h ≡ true) × (g ≡ h)) ⊎ ((same_holder g h ≡ false) × (g ≡ h → ⊥))
told_apart Free Free = inl (refl, refl)
told_apart Free (Operator n) = inr (refl, λ e. cc)
told_apart Free (Domain n) = inr (refl, λ e. cc)
told_apart (Operator m) Free = inr (refl, λ e. cc)
told_apart (Operator m) (Operator n) = elim (numbers m n) [
  | inl e ↦ inl (e.0, ap Operator e.1)
  | inr d ↦ inr (d.0, λ e. let same : m ≡ n = cc in d.1 same)
]
told_apart (Operator m) (Domain n) = inr (refl, λ e. cc)
told_apart (Domain m) Free = inr (refl, λ e. cc)
told_apart (Domain m) (Operator n) = inr (refl, λ e. cc)
told_apart (Domain m) (Domain n) = elim (numbers m n) [
  | inl e ↦ inl (e.0, ap Domain e.1)
  | inr d ↦ inr (d.0, λ e. let same : m ≡ n = cc in d.1 same)
]

pub same_is : (g h : Holder) → same_holder g h ≡ true → g ≡ h
same_is g h t = elim (told_apart g h) [ inl e ↦ e.1 | inr d ↦ absurd (let f : true ≡ false = sym t ∙ d.0 in cc) ]

pub other_is : (g h : Holder) → same_holder g h ≡ false → g ≡ h → ⊥
other_is g h f e = elim (told_apart g h) [ inl s ↦ let t : true ≡ false = sym s.0 ∙ f in cc | inr d ↦ d.1 e ]

pub same_self : (h : Holder) → same_holder h h ≡ true
same_self h = elim (told_apart h h) [ inl e ↦ e.0 | inr d ↦ absurd (d.1 refl) ]

pub free_even : (h : Holder) → is_free h ≡ true → odd_of h ≡ 0
free_even Free f = refl
free_even (Operator n) f = absurd cc
free_even (Domain n) f = absurd cc

pub held_odd : (h : Holder) → is_free h ≡ false → odd_of h ≡ 1
held_odd Free f = absurd cc
held_odd (Operator n) f = refl
held_odd (Domain n) f = refl

-- who is nobody is not somebody
pub free_not_held : (h : Holder) → is_free h ≡ true → is_free h ≡ false → ⊥
free_not_held h f g = let e : true ≡ false = sym f ∙ g in cc
