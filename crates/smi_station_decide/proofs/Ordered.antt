-- What an order names is there.
use Rattle.std.proofs.Common.{◌≡◌, ℕ, Bool, true}
use Rattle.std.specs.Prelude.{◌&&◌, nat_le}
use Rattle.std.proofs.lemmas.Bool.{and_parts, leb-true}
use Rattle.smi_base.specs.Between.{is_between}
use Rattle.smi_tree.specs.Hierarchy.{Hierarchy}
use Rattle.smi_tree.specs.Lawful.{IsBetween}
use Rattle.smi_tree.specs.Lookups.{domain_count, operator_station_of}
use Rattle.smi_tree.specs.Roles.{is_number, has_domain}
use Rattle.smi_station_decide.specs.Plans.{MayOrder}

pub within : (low high n : ℕ) → is_between low high n ≡ true → IsBetween low high n
within low high n t =
    let p = and_parts (nat_le low n) (nat_le n high) t in
    record { least = leb-true low n p.0; most = leb-true n high p.1 }

pub may_take : (h : Hierarchy) (number o d : ℕ)
    → (is_number (operator_station_of h o) number && has_domain h d) ≡ true → MayOrder h number o d
may_take h number o d t =
    let p = and_parts (is_number (operator_station_of h o) number) (has_domain h d) t in
    record { operator = p.0; domain = within 1 (domain_count h) d p.1 }

pub may_command : (h : Hierarchy) (number o d : ℕ) (argument : Bool)
    → (is_number (operator_station_of h o) number && (has_domain h d && argument)) ≡ true → MayOrder h number o d
may_command h number o d argument t =
    let p = and_parts (is_number (operator_station_of h o) number) (has_domain h d && argument) t in
    record { operator = p.0; domain = within 1 (domain_count h) d (and_parts (has_domain h d) argument p.1).0 }
