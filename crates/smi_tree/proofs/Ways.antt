-- On the way up from a domain.
use Rattle.std.proofs.Common.{◌≡◌, ℕ, suc, zero, ◌+◌, ◌-◌, ◌<◌, Bool, true, false, cond, List, Some, None, refl, ap}
use Rattle.std.proofs.Common.{◌∙◌, sym, inl, inr, arith}
use Rattle.std.specs.Prelude.{◌==◌, ◌||◌, is_some}
use Rattle.std.specs.List.{list_any}
use Rattle.smi_tree.proofs.Depth.{option-cases}
use Rattle.smi_tree.proofs.HierarchyLemmas.{ancestors-none, ancestors-some, ancestors-zero}
use Rattle.smi_tree.specs.declared.row.Domain.{Domain}
use Rattle.smi_tree.specs.Hierarchy.{ancestors, parent_in}
use Rattle.smi_tree.specs.Lookups.{towards}

pub towards-root : (n : ℕ) (domains : List Domain) (domain at : ℕ) → parent_in domains at ≡ None
    → towards n domains domain at ≡ None
unfolding towards
towards-root zero domains domain at root = refl
towards-root (suc n) domains domain at root = rw root refl

pub towards-up : (n : ℕ) (domains : List Domain) (domain at parent : ℕ) → parent_in domains at ≡ Some parent →
    towards (suc n) domains domain at ≡ cond (parent == domain) (Some at) (towards n domains domain parent)
unfolding towards
towards-up n domains domain at parent above = rw above refl

pub towards-zero : (domains : List Domain) (domain at : ℕ) → towards 0 domains domain at ≡ None
unfolding towards
towards-zero domains domain at = refl

-- one of at most eight steps
pub towards-step : (done : ℕ) (domains : List Domain) (domain at parent : ℕ) → done < 8
    → parent_in domains at ≡ Some parent →
    towards (8 - done) domains domain at ≡ cond (parent == domain) (Some at)
    (towards (8 - (done + 1)) domains domain parent)
towards-step done domains domain at parent within above =
    let more : 8 - done ≡ suc (8 - (done + 1)) = omega arith in
    ap (λ (n : ℕ). towards n domains domain at) more ∙ towards-up (8 - (done + 1)) domains domain at parent above

-- there is a way to a domain exactly when it is among those above
pub is_some-towards : (n : ℕ) (domains : List Domain) (domain at : ℕ) →
    is_some (towards n domains domain at) ≡ list_any (λ above. above == domain) (ancestors n domains at)
is_some-towards zero domains domain at =
    ap is_some (towards-zero domains domain at)
    ∙ sym (ap (list_any (λ (above : ℕ). above == domain)) (ancestors-zero domains at))
is_some-towards (suc n) domains domain at = elim (option-cases (parent_in domains at)) [
  | inl root ↦ ap is_some (towards-root (suc n) domains domain at root)
      ∙ sym (ap (list_any (λ (above : ℕ). above == domain)) (ancestors-none (suc n) domains at root))
  | inr up ↦ ap is_some (towards-up n domains domain at up.0 up.1)
      ∙ go (up.0 == domain) up.0 (is_some-towards n domains domain up.0)
      ∙ sym (ap (list_any (λ (above : ℕ). above == domain)) (ancestors-some n domains at up.0 up.1))
]
  where
    go : (b : Bool) (parent : ℕ) → is_some (towards n domains domain parent)
        ≡ list_any (λ above. above == domain) (ancestors n domains parent) →
        is_some (cond b (Some at) (towards n domains domain parent))
        ≡ (b || list_any (λ above. above == domain) (ancestors n domains parent))
    go true parent same = refl
    go false parent same = same
