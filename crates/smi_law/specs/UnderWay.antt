-- How much is under way in the world.
use Rattle.std.specs.Prelude.{ℕ, ◌++◌, List, [], ◌∷◌, map, Option, Some, None}
use Rattle.std.specs.List.{flat_map, range_with_len}
use Rattle.smi_grant.specs.declared.Holder.{Holder}
use Rattle.smi_grant.specs.declared.Holder.TheVariants.{Operator, Domain}
use Rattle.smi_tree.specs.Hierarchy.{Hierarchy}
use Rattle.smi_tree.specs.Lookups.{operator_count, parent_of}
use Rattle.smi_protocol.specs.Schedule.{World}
use Rattle.smi_protocol.specs.Ticking.{domains_of}
use Rattle.smi_law.specs.Known.{link_in}
use Rattle.smi_law.specs.Bound.{total}
use Rattle.smi_law.specs.Waiting.{waiting}

-- a holder and a domain that it may hold
pub record Party : Type 0 where
  pub holder : Holder
  pub domain : ℕ

abbrev pub party : ℕ → Holder → Party
party d who = record { holder = who; domain = d }

-- the parent of a domain, if it has one
abbrev pub above : Option ℕ → List Holder
above None = []
above (Some p) = Domain p ∷ []

-- all operators, and the parent
abbrev pub holders_of : Hierarchy → ℕ → List Holder
holders_of h d = map Operator (range_with_len 1 (operator_count h)) ++ above (parent_of h d)

-- all who may hold something
abbrev pub parties : Hierarchy → List Party
parties h = flat_map (λ d. map (party d) (holders_of h d)) (domains_of h)

-- takes, drops and commands of all of them that have not settled
abbrev pub under_way : Hierarchy → World → ℕ
under_way h w = total (map (λ x. waiting (link_in h w x.holder x.domain)) (parties h))
