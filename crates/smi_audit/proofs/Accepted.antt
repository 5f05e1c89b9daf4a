-- An entry that an audit takes leaves what was taken safe.
use Rattle.std.proofs.Common.{Bool, true, false, ◌∷◌, sym, ap, subst}
use Rattle.std.specs.Prelude.{Result, Ok, Err, IfOk}
use Rattle.smi_protocol.specs.declared.Entry.{Entry}
use Rattle.smi_law.specs.Safe.{Safe}
use Rattle.smi_audit.specs.Audited.{AuditState, tables_of, Accepts, GoesOn}
use Rattle.smi_audit.specs.Described.{IsDescribed, BootedAtMost}
use Rattle.smi_audit.specs.Tables.{Tables, is_known}
use Rattle.std.proofs.lemmas.Bool.{and_parts}
use Rattle.smi_audit.proofs.Boots.{booted_after, boots_after}
use Rattle.smi_audit.proofs.Sound.{described, taken_safe}

goes_on : (taken : Bool) (b a : AuditState) (x : Entry) → Accepts taken b a x → GoesOn taken b a x
goes_on true b a x r = λ past i. let fit = (and_parts (is_known b.domains.tree x) _ r.0).1 in record {
  described = subst (λ t. IsDescribed (x ∷ past) t) (sym r.1)
      (described b.domains.tree past (tables_of b) i.described x fit);
  safe = subst (λ h. Safe h (x ∷ past)) (sym r.2)
      (taken_safe b.domains.tree past (tables_of b) i.described x fit i.safe);
  booted = subst (λ t. BootedAtMost (x ∷ past) t) (sym (ap (λ (t : Tables). t.boots) r.1))
      (booted_after b.domains.tree (tables_of b) past x fit i.booted);
  boots = boots_after b.domains.tree (tables_of b) past x fit i.booted i.boots;
}
goes_on false b a x r = tt

pub goes_on_ok : {E : Type 0} (r : Result Bool E) (b a : AuditState) (x : Entry) → IfOk r (λ taken. Accepts taken b a x)
    → IfOk r (λ taken. GoesOn taken b a x)
goes_on_ok (Ok taken) b a x is = goes_on taken b a x is
goes_on_ok (Err e) b a x is = tt
