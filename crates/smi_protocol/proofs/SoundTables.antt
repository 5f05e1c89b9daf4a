-- What a change of some links leaves unchanged, and what the parts of a lawful record add up to.
use Rattle.std.proofs.Common.{ℕ, ◌≡◌, ◌≤◌, Bool, true, false, refl, ap, arith}
use Rattle.std.specs.Prelude.{◌==◌, ◌||◌, nat_le, max, not, count_by}
use Rattle.std.specs.List.{list_any, range_with_len}
use Rattle.std.proofs.lemmas.Bool.{and_from, and_parts}
use Rattle.std.proofs.lemmas.Bool.Decides.{nat_tests}
use mathlib.Core.Path.{fun_ext}
use Rattle.smi_grant.specs.declared.Holder.TheVariants.{Operator, Domain}
use Rattle.smi_grant.specs.Holder as holder
use Rattle.smi_grant.specs.Record.{Standing, IsRecord, is_record, is_outcome}
use Rattle.smi_grant.proofs.Records.{is_record-true, is_record-facts}
use Rattle.smi_command.specs.declared.Link.{Link}
use Rattle.smi_tree.specs.Hierarchy.{Hierarchy}
use Rattle.smi_tree.specs.Lookups.{children_of, domain_count}
use Rattle.smi_rows.specs.Ranges.{is_standing}
use Rattle.smi_command.specs.Link.{is_out, is_unsettled}
use Rattle.smi_protocol.specs.Grants.{Grants}
use Rattle.smi_protocol.specs.GrantStep.{waits_for_children}
use Rattle.smi_protocol.specs.Refusals.{links_in_use}

-- Records.

pub record Stands (r : Standing) : Type 0 where
  pub holder : holder.is_in_range r.holder ≡ true
  pub outcome : is_outcome r.outcome ≡ true
  pub lawful : IsRecord r

pub standing_facts : (r : Standing) → is_standing r ≡ true → Stands r
standing_facts r is =
    let a = and_parts (holder.is_in_range r.holder) _ is in
    let b = and_parts (is_outcome r.outcome) (is_record r) a.1 in
    record { holder = a.0; outcome = b.0; lawful = is_record-facts r b.1 }

pub standing_true : (r : Standing) → holder.is_in_range r.holder ≡ true → is_outcome r.outcome ≡ true → IsRecord r
    → is_standing r ≡ true
standing_true r a b c = and_from _ _ a (and_from _ _ b (is_record-true r c))

pub small_outcome : (x : ℕ) → x ≤ 7 → is_outcome x ≡ true
small_outcome x few = by (nat_le x 7) few'
  where
    few' : nat_le x 7 ≡ true
    few' = grind (arith, nat_tests)

    by : (b : Bool) → b ≡ true → (b || x == 9) ≡ true
    by true is = refl
    by false is = absurd cc

pub larger_outcome : (x y : ℕ) → is_outcome x ≡ true → is_outcome y ≡ true → is_outcome (max x y) ≡ true
larger_outcome x y a b = by (nat_le x y) refl
  where
    by : (t : Bool) → nat_le x y ≡ t → is_outcome (max x y) ≡ true
    by true is = let same : max x y ≡ y = later x y is in rw same b
      where
        later : (x y : ℕ) → nat_le x y ≡ true → max x y ≡ y
        later x y is = grind (arith, nat_tests)
    by false is = let same : max x y ≡ x = first x y is in rw same a
      where
        first : (x y : ℕ) → nat_le x y ≡ false → max x y ≡ x
        first x y is = grind (arith, nat_tests)

-- Links.

-- a domain whose links are the same waits as before
pub waits_alike : (h : Hierarchy) (g k : Grants) (d : ℕ) → ((x : ℕ) → k.links (Domain d) x ≡ g.links (Domain d) x)
    → waits_for_children h k d ≡ waits_for_children h g d
waits_alike h g k d same = ap (λ (t : ℕ → Link). list_any (λ x. is_unsettled (t x)) (children_of h d)) (fun_ext same)

-- an operator whose links are the same has as many in use
pub use_alike : (h : Hierarchy) (g k : Grants) (o : ℕ) → ((x : ℕ) → k.links (Operator o) x ≡ g.links (Operator o) x)
    → links_in_use h k o ≡ links_in_use h g o
use_alike h g k o same =
    ap (λ (t : ℕ → Link). count_by (λ d. not (is_out (t d))) (range_with_len 1 (domain_count h))) (fun_ext same)
