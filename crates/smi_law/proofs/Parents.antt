-- A domain that another one holds is its child, and parents have lower numbers.
use Rattle.std.proofs.Common.{ℕ, ◌≡◌, List, [], ◌∷◌, inl, inr, refl, sym, ◌∙◌, subst}
use Rattle.std.specs.Prelude.{◌<◌, Option, Some, None, option_and_then}
use Rattle.smi_grant.specs.declared.Holder.TheVariants.{Domain}
use Rattle.smi_tree.specs.declared.row.Domain.{Domain as DomainRow}
use Rattle.smi_tree.specs.Hierarchy.{Hierarchy, entry}
use Rattle.smi_tree.specs.Lawful.{IsTree}
use Rattle.smi_tree.specs.Lookups.{parent_of}
use Rattle.smi_protocol.specs.declared.Entry.{Entry}
use Rattle.smi_protocol.specs.declared.Entry.TheVariants.{Granted}
use Rattle.smi_law.specs.Known.{record_in}
use Rattle.smi_law.specs.Safe.{SafeGrants, GrantFits}
use Rattle.smi_protocol.specs.Schedule.{World}
use Rattle.smi_law.specs.Trace.{Stands, epoch_at}
use Rattle.smi_law.proofs.LinkChanges.{granted_stands}
use Rattle.smi_law.proofs.Traces.{Safely}

-- each entry of a safe trace fits the entries before it
granted_parent : (h : Hierarchy) (d e q : ℕ) (past : List Entry) → SafeGrants h past
    → Stands (Granted d e (Domain q)) past → parent_of h d ≡ Some q
granted_parent h d e q [] safe at = absurd at
granted_parent h d e q (x ∷ past) safe (inl same) =
    let a : GrantFits h (Granted d e (Domain q)) past = subst (λ z. GrantFits h z past) (sym same) safe.0 in
    a.2
granted_parent h d e q (x ∷ past) safe (inr at) = granted_parent h d e q past safe.2 at

pub held_by_parent : (h : Hierarchy) (past : List Entry) (w : World) → Safely h past w → (d q : ℕ)
    → (record_in h w d).holder ≡ Domain q → parent_of h d ≡ Some q
held_by_parent h past w s d q is =
    granted_parent h d (epoch_at d past) q past s.safe (granted_stands d (Domain q) refl past (s.traces.holder d ∙ is))

pub parents_are_lower : (h : Hierarchy) → IsTree h → (d p : ℕ) → parent_of h d ≡ Some p → p < d
parents_are_lower h tree d p is = read (entry h.domains d) refl is
  where
    read : (o : Option DomainRow) → entry h.domains d ≡ o
        → option_and_then (λ (row : DomainRow). row.parent) o ≡ Some p → p < d
    read None at i = absurd cc
    read (Some row) at i = ((tree.lawful.domains.each d row at).parent p i).1
