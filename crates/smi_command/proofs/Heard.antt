-- What a holder is told keeps the facts on its link.
use Rattle.std.proofs.Common.{ℕ, ◌≡◌, ◌≤◌, ◌<◌, ◌+◌, Bool, true, false, List, [], drop, ◌⊎◌, inl, inr, refl, ap, ◌∙◌}
use Rattle.std.proofs.Common.{arith}
use Rattle.std.specs.Prelude.{◌==◌, ◌&&◌, nat_lt, nat_le, not, if◌then◌else◌}
use Rattle.std.proofs.lemmas.Bool.{and_parts, eqb-true, ltb-true, leb-true}
use Rattle.smi_grant.specs.declared.command.Command.{Command}
use Rattle.smi_grant.specs.declared.holder.Holder.{Holder}
use Rattle.smi_grant.specs.Holder.{is_free, same_holder}
use Rattle.smi_grant.specs.Record.{Standing, IsRecord, last_epoch}
use Rattle.smi_command.specs.KnownGrant.{Waits}
use Rattle.smi_command.specs.declared.link.Link.{Link}
use Rattle.smi_command.specs.declared.link.Link.TheVariants.{Out, Taking, Held, Dropping}
use Rattle.smi_command.specs.declared.hearing.LinkHeard.{LinkHeard}
use Rattle.smi_command.specs.Hearing.{told_link, settled_count}
use Rattle.smi_command.specs.Link.{known}
use Rattle.smi_command.proofs.Facts.{LinkOk, TellOk}
use Rattle.smi_grant.proofs.Holders.{same_is, other_is}
use Rattle.smi_command.proofs.LinkSteps.{Goes, stays, learns, gives_up, renews, loses, settles, is_out}
use Rattle.smi_command.proofs.Waiting.{waited, none_waits}

pub not_true : (b : Bool) → not b ≡ true → b ≡ false
not_true true t = absurd cc
not_true false t = refl

-- a fact of one of two, by the test that chooses
pub choose : {A : Type 0} (F : A → Type 0) (b : Bool) (x y : A) → (b ≡ true → F x) → (b ≡ false → F y)
    → F (if b then x else y)
choose F true x y t f = t refl
choose F false x y t f = f refl

-- A fact on the old and the new link holds of each row of the told table, so of what is told.
module _ (P : Link → Link → Type 0) (h : Holder) (q : Standing) where
  pub by_row_taking : (s : ℕ)
      → (q.epoch ≡ s + 1 → q.holder ≡ h → P (Taking s) (Held (s + 1) 0 []))
      → (is_free q.holder ≡ true → q.epoch ≡ last_epoch → P (Taking s) (Out last_epoch))
      → (is_free q.holder ≡ true → s < q.epoch → P (Taking s) (Taking q.epoch))
      → (is_free q.holder ≡ false → (q.holder ≡ h → ⊥) → s ≤ q.epoch → P (Taking s) (Out q.epoch))
      → P (Taking s) (Taking s)
      → P (Taking s) (told_link (Taking s) h q)
  by_row_taking s learned spent free lost same =
      choose {A = Link × LinkHeard} (λ z. P (Taking s) z.0) (q.epoch == s + 1 && same_holder q.holder h) _ _
      (λ t. let a = and_parts (q.epoch == s + 1) _ t in learned (eqb-true _ _ a.0) (same_is q.holder h a.1))
      (λ n. choose {A = Link × LinkHeard} (λ z. P (Taking s) z.0) (is_free q.holder && q.epoch == last_epoch) _ _
      (λ t. let a = and_parts (is_free q.holder) _ t in spent a.0 (eqb-true _ _ a.1))
      (λ n'. choose {A = Link × LinkHeard} (λ z. P (Taking s) z.0) (is_free q.holder && nat_lt s q.epoch) _ _
      (λ t. let a = and_parts (is_free q.holder) _ t in free a.0 (ltb-true _ _ a.1))
      (λ n''. choose {A = Link × LinkHeard} (λ z. P (Taking s) z.0)
      (not (is_free q.holder) && (not (same_holder q.holder h) && nat_le s q.epoch)) _ _
      (λ t. let a = and_parts (not (is_free q.holder)) _ t in
      let b = and_parts (not (same_holder q.holder h)) _ a.1 in
      lost (not_true _ a.0) (other_is q.holder h (not_true _ b.0)) (leb-true _ _ b.1))
      (λ n'''. same))))

  pub by_row_held : (e n : ℕ) (p : List Command)
      → (q.epoch ≡ e → P (Held e n p) (Held e n (drop (settled_count n p q) p)))
      → P (Held e n p) (Held e n p)
      → P (Held e n p) (told_link (Held e n p) h q)
  by_row_held e n p heard same =
      choose {A = Link × LinkHeard} (λ z. P (Held e n p) z.0) (q.epoch == e) _ _ (λ t. heard (eqb-true _ _ t))
      (λ n'. same)

  pub by_row_dropping : (e : ℕ)
      → (e < q.epoch → P (Dropping e) (Out q.epoch))
      → P (Dropping e) (Dropping e)
      → P (Dropping e) (told_link (Dropping e) h q)
  by_row_dropping e gone same =
      choose {A = Link × LinkHeard} (λ z. P (Dropping e) z.0) (nat_lt e q.epoch) _ _ (λ t. gone (ltb-true _ _ t))
      (λ n. same)

module _ (r : Standing) (h : Holder) (party : is_free h ≡ false) (lawful : IsRecord r) (q : Standing) where
  pub told_goes : (l : Link) → TellOk r h l q → LinkOk r h l → Goes r h l (told_link l h q)
  told_goes (Out k) t o = stays r h (Out k) o
  told_goes (Taking s) t o = by_row_taking (Goes r h) h q s
      (λ e mine. learns r h party lawful q s t o e mine)
      (λ free e. gives_up r h party lawful q s t o e free)
      (λ free less. renews r h party lawful q s t o less free)
      (λ held other less. loses r h party lawful q s t o less held other)
      (stays r h (Taking s) o)
  told_goes (Held e n p) t o = by_row_held (Goes r h) h q e n p (λ at. settles r h party lawful q e n p t o at)
      (stays r h (Held e n p) o)
  told_goes (Dropping e) t o = by_row_dropping (Goes r h) h q e (λ less. is_out r h party lawful q e t o less)
      (stays r h (Dropping e) o)

-- no command is issued: a held link was held with the same newest number, or its grant is new, and
-- what waits has waited
pub record Quiet (l l' : Link) : Type 0 where
  pub held : (e n : ℕ) (p : List Command) → l' ≡ Held e n p → ((p' : List Command) × (l ≡ Held e n p')) ⊎ (known l < e)
  pub waits : (e n : ℕ) (c : Command) → Waits l' e n c → Waits l e n c

pub quiet_same : (l : Link) → Quiet l l
quiet_same l = record { held = λ e n p is. inl (p, is); waits = λ e n c w. w }

pub quiet_out : (l : Link) (k : ℕ) → Quiet l (Out k)
quiet_out l k = record { held = λ e n p is. absurd cc; waits = λ e n c w. let is = w.is in absurd cc }

pub quiet_taking : (l : Link) (k : ℕ) → Quiet l (Taking k)
quiet_taking l k = record { held = λ e n p is. absurd cc; waits = λ e n c w. let is = w.is in absurd cc }

pub quiet_dropping : (l : Link) (k : ℕ) → Quiet l (Dropping k)
quiet_dropping l k = record { held = λ e n p is. absurd cc; waits = λ e n c w. let is = w.is in absurd cc }

quiet_learned : (s : ℕ) → Quiet (Taking s) (Held (s + 1) 0 [])
quiet_learned s = record {
  held = λ e n p is. let same : s + 1 ≡ e = cc in inr (omega arith);
  waits = λ e n c w. absurd (none_waits (s + 1) 0 e n c w);
}

pub told_quiet : (l : Link) (h : Holder) (q r : Standing) → LinkOk r h l → Quiet l (told_link l h q)
told_quiet (Out k) h q r o = quiet_same (Out k)
told_quiet (Taking s) h q r o = by_row_taking Quiet h q s (λ e mine. quiet_learned s)
    (λ free e. quiet_out (Taking s) last_epoch) (λ free less. quiet_taking (Taking s) q.epoch)
    (λ held other less. quiet_out (Taking s) q.epoch) (quiet_same (Taking s))
told_quiet (Held e n p) h q r o = by_row_held Quiet h q e n p
    (λ at. record {
      held = λ f m p' is. let a : e ≡ f = cc in let b : n ≡ m = cc in
          inl (p, ap (λ z. Held z n p) a ∙ ap (λ z. Held f z p) b);
      waits = λ f m c w. waited e n (settled_count n p q) p f m c o.2.counted (omega arith) w;
    })
    (quiet_same (Held e n p))
told_quiet (Dropping e) h q r o = by_row_dropping Quiet h q e (λ less. quiet_out (Dropping e) q.epoch)
    (quiet_same (Dropping e))
