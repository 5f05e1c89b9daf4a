-- What settles at once, place by place.
use Rattle.std.proofs.Common.{ℕ, ◌≡◌, ◌<◌, ◌≤◌, Bool, List, length, Some, None, ◌∙◌, sym, ap, arith}
use Rattle.std.specs.Prelude.{◌==◌, ◌&&◌, slice_get}
use Rattle.std.proofs.lemmas.Bool.Decides.{nat_tests}
use Rattle.std.proofs.lemmas.Option.{slice_get_past, slice_get_read}
use Rattle.std.proofs.lemmas.List.FromFn.{get_or-map-range_with_len}
use Rattle.smi_command.specs.declared.settlements.Settlement.{Settlement}
use Rattle.smi_command.specs.Settlements.{settled_at, settled_run, IsRun, first_number, last_code, same_first}
use Rattle.smi_command.specs.Settlements.{same_count, same_code}

module _ (first count x : ℕ) (xs : List Settlement) (seen : settled_run first count x ≡ xs) where
  pub count_seen : count ≡ length xs
  count_seen = sym (same_count first count x) ∙ ap length seen

  pub none_past : (i : ℕ) → count ≤ i → None ≡ slice_get xs i
  none_past i past = sym (slice_get_past xs i (omega (arith, count_seen)))

  pub one_within : (i : ℕ) → i < count → Some (settled_at first count x i) ≡ slice_get xs i
  one_within i within =
      sym (ap (λ ys. slice_get ys i) (sym seen) ∙ slice_get_read (settled_run first count x) count i
      (settled_at first count x i) (sym (same_count first count x)) within
      (sym (get_or-map-range_with_len (settled_at first count x) 0 count i i (settled_at first count x i) within
      (omega arith))))

-- what two settle is the same where their fields are
pub same_runs : (f₁ f₂ c₁ c₂ x₁ x₂ : ℕ) (xs₁ xs₂ : List Settlement) (p q b : Bool)
    → p ≡ (f₁ == f₂) → q ≡ (p && (x₁ == x₂)) → b ≡ (q && (c₁ == c₂))
    → settled_run f₁ c₁ x₁ ≡ xs₁ → settled_run f₂ c₂ x₂ ≡ xs₂ → IsRun f₁ c₁ → IsRun f₂ c₂
    → b ≡ ((first_number xs₁ == first_number xs₂) && ((last_code xs₁ == last_code xs₂) && (length xs₁ == length xs₂)))
same_runs f₁ f₂ c₁ c₂ x₁ x₂ xs₁ xs₂ p q b e₁ e₂ e₃ s₁ s₂ r₁ r₂ =
    let a₁ : first_number xs₁ ≡ f₁ = ap first_number (sym s₁) ∙ same_first f₁ c₁ x₁ r₁ in
    let a₂ : first_number xs₂ ≡ f₂ = ap first_number (sym s₂) ∙ same_first f₂ c₂ x₂ r₂ in
    let d₁ : last_code xs₁ ≡ x₁ = ap last_code (sym s₁) ∙ same_code f₁ c₁ x₁ r₁ in
    let d₂ : last_code xs₂ ≡ x₂ = ap last_code (sym s₂) ∙ same_code f₂ c₂ x₂ r₂ in
    let n₁ : length xs₁ ≡ c₁ = sym (count_seen f₁ c₁ x₁ xs₁ s₁) in
    let n₂ : length xs₂ ≡ c₂ = sym (count_seen f₂ c₂ x₂ xs₂ s₂) in
    rw (a₁, a₂, d₁, d₂, n₁, n₂) (e₃ ∙ rw e₂ (rw e₁ (regrouped (f₁ == f₂) (x₁ == x₂) (c₁ == c₂))))
  where
    regrouped : (p q r : Bool) → ((p && q) && r) ≡ (p && (q && r))
    regrouped p q r = grind (arith, nat_tests)
