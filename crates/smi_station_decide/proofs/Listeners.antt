-- Who listens to a record has a link here that it changes.
use Rattle.std.proofs.Common.{ℕ, ◌≡◌, true, inl, inr, Option, Some, None, [], ◌∷◌, map, sym, ap, ◌∙◌, subst, Bool}
use Rattle.std.proofs.Common.{false}
use Rattle.std.specs.Prelude.{if◌then◌else◌}
use Rattle.smi_grant.specs.declared.Holder.{Holder}
use Rattle.smi_grant.specs.declared.Holder.TheVariants.{Operator, Domain}
use Rattle.smi_grant.specs.Record.{Standing}
use Rattle.smi_tree.specs.Roles.{is_number, is_parent, is_keeper}
use Rattle.smi_tree.specs.Hierarchy.{Hierarchy}
use Rattle.smi_tree.specs.Lawful.{IsBetween, IsTree}
use Rattle.smi_tree.specs.Lookups.{domain_count, operators_of, parent_of}
use Rattle.smi_station_decide.specs.Plans.{MayOrder}
use Rattle.smi_protocol.specs.Grants.{Grants}
use Rattle.smi_protocol.specs.Hearing.{hears, listener, listeners, parent_here}
use Rattle.smi_protocol.proofs.Lists.{In, in_both, from_mapped}
use Rattle.smi_protocol.proofs.Ranges.{child_there}
use Rattle.smi_protocol.proofs.SoundSteps.{found, listening_parent}
use Rattle.smi_protocol.proofs.Tables.{number_self, operator_ours}

module _ (h : Hierarchy) (number : ℕ) (g : Grants) (d : ℕ) (r : Standing) where
  listens : (who : Holder) → listener h number g d r ≡ Some who
      → In who (listeners h number d) × (hears (g.links who d) who r ≡ true)
  listens who is = found (λ who. hears (g.links who d) who r) (listeners h number d) who is

  ours : (o : ℕ) → In (Operator o) (listeners h number d) → In o (operators_of h number)
  ours o a = elim (in_both (Operator o) (map Operator (operators_of h number)) (parent_here h number (parent_of h d))
      a) [
        | inl b ↦ let c = from_mapped Operator (Operator o) (operators_of h number) b in named c.0 c.1 c.2
        | inr b ↦ nobody (parent_of h d) b
      ]
    where
      named : (p : ℕ) → In p (operators_of h number) → Operator o ≡ Operator p → In o (operators_of h number)
      named p b is = let same : o ≡ p = cc in subst (λ z. In z (operators_of h number)) (sym same) b

      nobody : (q : Option ℕ) → In (Operator o) (parent_here h number q) → In o (operators_of h number)
      nobody None b = absurd b
      nobody (Some q) b = by (is_keeper h number q) b
        where
          by : (k : Bool) → In (Operator o) (if k then Domain q ∷ [] else []) → In o (operators_of h number)
          by true (inl i) = absurd (let wrong : Operator o ≡ Domain q = i in cc)
          by true (inr i) = absurd i
          by false i = absurd i

  pub operator_may : (o : ℕ) → IsBetween 1 (domain_count h) d → listener h number g d r ≡ Some (Operator o)
      → MayOrder h number o d
  operator_may o within is = record {
    operator = ap (λ p. is_number p number) (operator_ours h number o (ours o (listens (Operator o) is).0))
        ∙ number_self number;
    domain = within;
  }

  pub parent_is : (p : ℕ) → listener h number g d r ≡ Some (Domain p) → is_parent h d p ≡ true
  parent_is p is = listening_parent h number d p (listens (Domain p) is).0

  pub parent_within : IsTree h → (p : ℕ) → listener h number g d r ≡ Some (Domain p) → IsBetween 1 (domain_count h) p
  parent_within tree p is = (child_there h tree d p (parent_is p is)).1

  pub parent_hears : (p : ℕ) → listener h number g d r ≡ Some (Domain p)
      → hears (g.links (Domain p) d) (Domain p) r ≡ true
  parent_hears p is = (listens (Domain p) is).1
