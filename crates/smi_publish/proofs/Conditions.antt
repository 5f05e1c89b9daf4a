-- One object enters a state that is read off its condition.
use Rattle.std.proofs.Common.{◌≡◌, ℕ, Bool, true, false, Option, Some, refl, ap, List}
use Rattle.std.specs.Prelude.{◌==◌, ◌-◌, if◌then◌else◌, option_map}
use Rattle.std.proofs.lemmas.Bool.{eqb-true}
use mathlib.Core.Path.{fun_ext}
use Rattle.smi_tree.specs.Hierarchy.{Hierarchy}
use Rattle.smi_tree.specs.Lookups.{domain_count, moved, unit_state}
use Rattle.smi_publish.specs.declared.condition.Condition.{Condition}
use Rattle.smi_publish.specs.Publishing.{come_to, reported, moved_at, moved_by, evaluated, unit_moved}

-- two ways to go on from the one condition that the object has
one_way : (conditions : ℕ → Option Condition) (f : Condition → Condition) (g : ℕ → Condition → Condition)
    (object : ℕ) (old : Condition)
    → conditions object ≡ Some old → f old ≡ g object old
    → (x : ℕ) → (b : Bool) → (x == object) ≡ b
    → (if b then option_map f (conditions x) else conditions x)
    ≡ (if b then option_map (g x) (conditions x) else conditions x)
one_way conditions f g object old here same x true is =
    rw (eqb-true x object is, here) (ap (λ c. Some c) same)
one_way conditions f g object old here same x false is = refl

pub moved_as : (h : Hierarchy) (conditions : ℕ → Option Condition) (action object : ℕ) (old : Condition)
    → conditions object ≡ Some old
    → reported conditions object (moved h (object - domain_count h) old.state action)
    ≡ moved_at h conditions action object
moved_as h conditions action object old here =
    fun_ext (λ x. one_way conditions (come_to (moved h (object - domain_count h) old.state action))
    (moved_by h action) object old here refl x (x == object) refl)

pub evaluated_as : (h : Hierarchy) (conditions : ℕ → Option Condition) (domain : ℕ) (members : List ℕ) (old : Condition)
    → conditions domain ≡ Some old
    → reported conditions domain (unit_state h domain old.state members) ≡ evaluated h conditions domain members
evaluated_as h conditions domain members old here =
    fun_ext (λ x. one_way conditions (come_to (unit_state h domain old.state members))
    (λ y. unit_moved h domain members) domain old here refl x (x == domain) refl)
