-- When a unit changes its state.
use Rattle.std.specs.Prelude.{ℕ, ◌==◌, ◌&&◌, Bool, List, [], ◌∷◌, if◌then◌else◌}
use Rattle.std.specs.List.{list_any, list_all}
use Rattle.smi_tree.specs.File.{has_one}
use Rattle.smi_tree.specs.declared.declaration.Quantifier.{Quantifier}
use Rattle.smi_tree.specs.declared.declaration.Quantifier.TheVariants.{Any, All}
use Rattle.smi_tree.specs.declared.row.Rule.{Rule}

-- some member is in the state; there is a member, and every member is in the state
abbrev pub is_met : Quantifier → ℕ → List ℕ → Bool
is_met Any state members = list_any (λ member. member == state) members
is_met All state members = has_one members && list_all (λ member. member == state) members

abbrev pub holds : Rule → List ℕ → Bool
holds rule members = is_met rule.quantifier rule.state members

-- the target of the first rule that holds, else the old state
abbrev pub state_by : List Rule → ℕ → List ℕ → ℕ
state_by [] old members = old
state_by (rule ∷ rules) old members = if holds rule members then rule.target else state_by rules old members
