-- The domains above a domain.
use Rattle.std.proofs.Common.{◌≡◌, ℕ, suc, zero, ◌+◌, ◌-◌, ◌<◌, List, [], ◌∷◌, length, Some, None, refl, ap, ◌∙◌}
use Rattle.std.proofs.Common.{arith}
use Rattle.smi_tree.specs.declared.row.Domain.{Domain}
use Rattle.smi_tree.specs.Hierarchy.{ancestors, parent_in}

pub ancestors-none : (n : ℕ) (domains : List Domain) (domain : ℕ) → parent_in domains domain ≡ None →
    ancestors n domains domain ≡ []
unfolding ancestors
ancestors-none zero domains domain root = refl
ancestors-none (suc n) domains domain root = rw root refl

pub ancestors-some : (n : ℕ) (domains : List Domain) (domain parent : ℕ) → parent_in domains domain ≡ Some parent →
    ancestors (suc n) domains domain ≡ parent ∷ ancestors n domains parent
unfolding ancestors
ancestors-some n domains domain parent above = rw above refl

pub ancestors-zero : (domains : List Domain) (domain : ℕ) → ancestors 0 domains domain ≡ []
unfolding ancestors
ancestors-zero domains domain = refl

-- one step up
pub length-ancestors_up : (at : ℕ) (domains : List Domain) (domain parent : ℕ) → at < 8 →
    parent_in domains domain ≡ Some parent →
    length (ancestors (8 - at) domains domain) ≡ 1 + length (ancestors (8 - (at + 1)) domains parent)
length-ancestors_up at domains domain parent within above =
    let more : 8 - at ≡ suc (8 - (at + 1)) = omega arith in
    ap (λ (n : ℕ). length (ancestors n domains domain)) more
    ∙ ap length (ancestors-some (8 - (at + 1)) domains domain parent above)
    ∙ omega arith
