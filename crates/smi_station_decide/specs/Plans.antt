-- A change that is a step's.
use Rattle.std.specs.Prelude.{ℕ, ◌≡◌, true}
use Rattle.smi_grant.specs.declared.Verdict.{Verdict}
use Rattle.smi_grant.specs.declared.Verdict.TheVariants.{New, Same}
use Rattle.smi_tree.specs.Hierarchy.{Hierarchy}
use Rattle.smi_tree.specs.Lawful.{IsBetween}
use Rattle.smi_tree.specs.Lookups.{domain_count, operator_station_of}
use Rattle.smi_tree.specs.Roles.{is_number}
use Rattle.smi_protocol.specs.Grants.{Grants}
use Rattle.smi_protocol.specs.GrantStep.{GrantStep}
use Rattle.smi_station_grants.specs.Change.{changed, touched, IsChange}
use Rattle.smi_station_grants.specs.declared.change.Change.{Change}
use Rattle.smi_station_grants.specs.declared.change.Change.TheVariants as change

-- the change makes of the grants what the step makes of them, and saves the step's row
pub record Plans (h : Hierarchy) (number : ℕ) (g : Grants) (step : GrantStep) (c : Change) : Type 0 where
  pub grants : step.grants ≡ changed h g c
  pub row : step.row ≡ touched c
  pub lawful : IsChange h number g c

-- the operator is the station's, and the tree has the domain
pub record MayOrder (h : Hierarchy) (number o d : ℕ) : Type 0 where
  pub operator : is_number (operator_station_of h o) number ≡ true
  pub domain : IsBetween 1 (domain_count h) d

-- a keeper's verdict as a change
abbrev pub handed_by : ℕ → Verdict → Change
handed_by d (New r) = change.HolderChanged d r
handed_by d Same = change.Nothing
