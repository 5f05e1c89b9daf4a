-- What anybody asks of the keeper keeps the facts on each holder.
use Rattle.std.proofs.Common.{ℕ, ◌≡◌, ◌≤◌, ◌<◌, ◌+◌, Bool, true, false, List, ◌⊎◌, inl, inr, refl, sym, ap, ◌∙◌}
use Rattle.std.proofs.Common.{subst, arith}
use Rattle.std.specs.Prelude.{◌==◌, ◌&&◌, nat_lt}
use Rattle.std.proofs.lemmas.Bool.{and_parts, eqb-true, ltb-true, leb-true, le-leb}
use Rattle.smi_grant.specs.declared.command.Command.{Command}
use Rattle.smi_grant.specs.declared.holder.Holder.{Holder}
use Rattle.smi_grant.specs.declared.holder.Holder.TheVariants.{Free}
use Rattle.smi_grant.specs.declared.record.Phase.TheVariants.{Settled}
use Rattle.smi_grant.specs.Holder.{is_free, same_holder}
use Rattle.smi_grant.specs.Keeper.{handed, started, settled, admits}
use Rattle.smi_grant.specs.Record.{Standing, is_settled, last_epoch, last_number}
use Rattle.smi_command.specs.KnownGrant.{IsSpent, Waits}
use Rattle.smi_command.specs.declared.link.Link.{Link}
use Rattle.smi_command.specs.declared.link.Link.TheVariants.{Out, Taking, Held, Dropping}
use Rattle.smi_command.specs.declared.link.Due.{Due}
use Rattle.smi_command.specs.declared.link.Due.TheVariants.{Take, Drop, Run}
use Rattle.smi_command.specs.Link.{known}
use Rattle.smi_command.specs.OneLink.{Datagram, asked_record, settled_record, has_number}
use Rattle.smi_command.proofs.Facts.{place, AskOk, Fits}
use Rattle.smi_grant.proofs.Holders.{either, same_is}
use Rattle.smi_command.proofs.KeeperSteps.{handed_later, started_later, settled_later, fits_later, granted_link}
use Rattle.smi_command.proofs.KeeperSteps.{freed_link, started_link, settled_link}
use Rattle.smi_grant.proofs.Lawful.{settled_is, busy_is, granted_lawful, freed_lawful, started_lawful}
use Rattle.smi_grant.proofs.Lawful.{settled_lawful}

pub place_known : (l : Link) → place l ≤ known l + known l + 1
place_known (Out k) = omega arith
place_known (Taking s) = omega arith
place_known (Held e n p) = omega arith
place_known (Dropping e) = omega arith

-- what a test of the keeper says if it holds
pub record Admitted (r : Standing) (g : Holder) (e n : ℕ) : Type 0 where
  pub holder : r.holder ≡ g
  pub epoch : r.epoch ≡ e
  pub phase : r.phase ≡ Settled
  pub next : n ≡ r.last + 1

pub admitted : (r : Standing) (g : Holder) (e n : ℕ) → admits r g e n ≡ true → Admitted r g e n
admitted r g e n t =
    let a = and_parts (same_holder r.holder g) _ t in
    let b = and_parts (r.epoch == e) _ a.1 in
    let c = and_parts (is_settled r.phase) _ b.1 in
    record {
      holder = same_is r.holder g a.0;
      epoch = eqb-true _ _ b.0;
      phase = settled_is r.phase c.0;
      next = eqb-true _ _ c.1;
    }

module _ (r : Standing) (h : Holder) (l : Link) (sent : List Datagram) (party : is_free h ≡ false)
    (f : Fits r h l sent) where
  pub take_fits : (g : Holder) (s : ℕ) → is_free g ≡ false → (g ≡ h → AskOk r l (Take s)) → is_free r.holder ≡ true
      → r.epoch ≡ s → s < last_epoch → Fits (handed r g) h l sent
  take_fits g s held mine free epoch below =
      fits_later r (handed r g) h l sent f (granted_lawful r g f.lawful free held (omega arith))
      (granted_link r h party g l free is_mine f.link) (handed_later r g f.lawful) (λ e. absurd (not_free e))
    where
      is_mine : g ≡ h → l ≡ Taking r.epoch
      is_mine e = (mine e).is_open (sym epoch) free below ∙ ap Taking (sym epoch)

      not_free : r.holder ≡ h → ⊥
      not_free e = let t : true ≡ false = sym free ∙ ap is_free e ∙ party in cc

  pub drop_fits : (g : Holder) (e : ℕ) → is_free g ≡ false → (g ≡ h → AskOk r l (Drop e)) → r.holder ≡ g
      → r.epoch ≡ e → Fits (handed r Free) h l sent
  drop_fits g e held mine holder epoch =
      fits_later r (handed r Free) h l sent f (freed_lawful r f.lawful (ap is_free holder ∙ held))
      (freed_link r h party l gone f.link) (handed_later r Free f.lawful)
      (λ i b. omega (arith, gone i, place_known l))
    where
      gone : r.holder ≡ h → r.epoch + r.epoch + 1 ≤ place l
      gone i = let far : e + e + 1 ≤ place l = mine (sym holder ∙ i) in omega arith

  pub run_waits : (g : Holder) (e n : ℕ) (c : Command) → (g ≡ h → AskOk r l (Run e n c)) → Admitted r g e n
      → r.holder ≡ h → Waits l r.epoch (r.last + 1) c
  run_waits g e n c mine a i = still (mine (sym a.holder ∙ i)).spent
    where
      still : IsSpent r e n ⊎ Waits l e n c → Waits l r.epoch (r.last + 1) c
      still (inl (inl over)) = absurd (omega (arith, a.epoch))
      still (inl (inr ran)) = absurd (omega (arith, a.next, ran.1))
      still (inr w) = subst (λ m. Waits l r.epoch m c) a.next (subst (λ k. Waits l k n c) (sym a.epoch) w)

  pub run_fits : (g : Holder) (e n : ℕ) (c : Command) (busy : Bool) (x : ℕ) → is_free g ≡ false → n ≤ last_number
      → (g ≡ h → AskOk r l (Run e n c)) → Admitted r g e n → Fits (started r busy x) h l sent
  run_fits g e n c true x held within mine a =
      fits_later r (started r true x) h l sent f
      (started_lawful r true x f.lawful (ap is_free a.holder ∙ held) (omega (arith, a.next)))
      (started_link r h party true x c l (run_waits g e n c mine a) f.link) (started_later r true x f.lawful)
      (λ i b. absurd (omega arith))
  run_fits g e n c false x held within mine a =
      fits_later r (started r false x) h l sent f
      (started_lawful r false x f.lawful (ap is_free a.holder ∙ held) (omega (arith, a.next)))
      (started_link r h party false x c l (run_waits g e n c mine a) f.link) (started_later r false x f.lawful)
      (λ i b. absurd (omega arith))

  -- the record after a holder asked
  pub asked_fits : (g : Holder) (d : Due) (busy : Bool) (x : ℕ) → is_free g ≡ false → has_number d ≡ true
      → (g ≡ h → AskOk r l d) → Fits (asked_record r g d busy x) h l sent
  asked_fits g (Take s) busy x held within mine =
      elim (either (is_free r.holder && (r.epoch == s && nat_lt s last_epoch))) [
        | inl t ↦ rw t (let a = and_parts (is_free r.holder) _ t in let b = and_parts (r.epoch == s) _ a.1 in
            take_fits g s held mine a.0 (eqb-true _ _ b.0) (ltb-true _ _ b.1))
        | inr n ↦ rw n f
      ]
  asked_fits g (Drop e) busy x held within mine =
      elim (either (same_holder r.holder g && (r.epoch == e && is_settled r.phase))) [
        | inl t ↦ rw t (let a = and_parts (same_holder r.holder g) _ t in let b = and_parts (r.epoch == e) _ a.1 in
            drop_fits g e held mine (same_is r.holder g a.0) (eqb-true _ _ b.0))
        | inr n ↦ rw n f
      ]
  asked_fits g (Run e n c) busy x held within mine = elim (either (admits r g e n)) [
    | inl t ↦ rw t (run_fits g e n c busy x held (leb-true _ _ within) mine (admitted r g e n t))
    | inr n' ↦ rw n' f
  ]

  -- the record after a command ended
  pub settled_fits : (x : ℕ) → Fits (settled_record r x) h l sent
  settled_fits x = elim (either (is_settled r.phase)) [
    | inl t ↦ rw t f
    | inr n ↦ rw n (fits_later r (settled r x) h l sent f (settled_lawful r x f.lawful (busy_is r.phase n))
        (settled_link r h party x l f.link) (settled_later r x f.lawful) (λ i b. absurd (omega arith)))
  ]

-- what a holder asked has a number that a grant can have
pub asked_number : (r : Standing) (l : Link) (d : Due) → AskOk r l d → has_number d ≡ true
asked_number r l (Take s) o = refl
asked_number r l (Drop e) o = refl
asked_number r l (Run e n c) o = le-leb n last_number o.within
