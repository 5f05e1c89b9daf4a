-- What a station keeps are objects of the tree.
use Rattle.std.proofs.Common.{ℕ, ◌≡◌, ◌≤◌, ◌<◌, ◌+◌, ◌-◌, Bool, true, false, refl, arith}
use Rattle.std.specs.Prelude.{◌==◌, nat_le, Option, Some, None, option_map, option_and_then, if◌then◌else◌}
use Rattle.std.specs.Option.{option_map_or}
use Rattle.std.proofs.lemmas.Bool.{leb-true}
use Rattle.std.proofs.lemmas.Bool.Decides.{nat_tests}
use Rattle.smi_tree.specs.declared.row.Domain.{Domain as DomainRow}
use Rattle.smi_tree.specs.declared.row.Device.{Device as DeviceRow}
use Rattle.smi_tree.specs.Hierarchy.{Hierarchy, entry}
use Rattle.smi_tree.specs.Lawful.{IsTree}
use Rattle.smi_tree.specs.Lookups.{domain_count, device_count, station_of, first_state}
use Rattle.smi_publish.specs.declared.condition.Condition.{Condition}
use Rattle.smi_publish.specs.Published.{condition}
use Rattle.smi_tree.specs.Roles.{is_kept_by}
use Rattle.smi_publish.specs.Publishing.{first_condition}
use Rattle.smi_protocol.specs.Opening.{object_count}
use Rattle.smi_protocol.proofs.Ranges.{number_within}

module _ (h : Hierarchy) (tree : IsTree h) where
  device_within : (n : ℕ) (number : ℕ) → option_map_or (λ keeper. keeper == number)
      (option_and_then (station_of h) (option_map (λ (row : DeviceRow). row.domain) (entry h.devices n))) false ≡ true
      → n ≤ device_count h
  device_within n number = by (entry h.devices n) refl
    where
      by : (o : Option DeviceRow) → entry h.devices n ≡ o
          → option_map_or (λ keeper. keeper == number)
          (option_and_then (station_of h) (option_map (λ (row : DeviceRow). row.domain) o)) false ≡ true
          → n ≤ device_count h
      by None at i = absurd cc
      by (Some row) at i = let a = (number_within h.devices n row at).most in let b = tree.lawful.devices.rows in
          omega (arith, a, b)

  domain_least : (d number : ℕ) → option_map_or (λ keeper. keeper == number) (station_of h d) false ≡ true → 1 ≤ d
  domain_least d number = by (entry h.domains d) refl
    where
      by : (o : Option DomainRow) → entry h.domains d ≡ o
          → option_map_or (λ keeper. keeper == number) (option_map (λ (row : DomainRow). row.station) o) false ≡ true
          → 1 ≤ d
      by None at i = absurd cc
      by (Some row) at i = (number_within h.domains d row at).least

  pub kept_within : (number x : ℕ) → is_kept_by h number x ≡ true → (1 ≤ x) × (x < 1 + object_count h)
  kept_within number x kept = by (nat_le x (domain_count h)) refl kept
    where
      by : (b : Bool) → nat_le x (domain_count h) ≡ b
          → option_map_or (λ keeper. keeper == number)
          (option_and_then (station_of h) (if b then Some x
          else option_map (λ (row : DeviceRow). row.domain) (entry h.devices (x - domain_count h)))) false ≡ true
          → (1 ≤ x) × (x < 1 + object_count h)
      by true is i = let a = domain_least x number i in let b = leb-true x (domain_count h) is in (a, omega (arith, b))
      by false is i = let a = device_within (x - domain_count h) number i in let b = above x (domain_count h) is in
          (omega (arith, b), omega (arith, a, b))
        where
          above : (m n : ℕ) → nat_le m n ≡ false → n < m
          above m n f = grind (arith, nat_tests)

pub first_kept : (h : Hierarchy) (number x : ℕ) (c : Condition) → first_condition h number x ≡ Some c
    → is_kept_by h number x ≡ true
first_kept h number x c is = by (is_kept_by h number x) is
  where
    by : (b : Bool) → (if b then option_map (λ state. condition state 0) (first_state h x) else None) ≡ Some c
        → b ≡ true
    by true i = refl
    by false i = absurd cc
