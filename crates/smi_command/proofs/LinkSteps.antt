-- A link goes from one form to the next, and keeps the facts on it and on what was sent.
use Rattle.std.proofs.Common.{ℕ, ◌≡◌, ◌≤◌, ◌<◌, ◌+◌, ◌-◌, true, false, List, [], length, drop, ◌⊎◌, inl, inr, refl}
use Rattle.std.proofs.Common.{sym, ap, ◌∙◌, arith, length-drop}
use Rattle.std.specs.Prelude.{if◌then◌else◌}
use Rattle.smi_grant.specs.declared.command.Command.{Command}
use Rattle.smi_grant.specs.declared.holder.Holder.{Holder}
use Rattle.smi_grant.specs.declared.record.Phase.{Phase}
use Rattle.smi_grant.specs.declared.record.Phase.TheVariants.{Settled, Busy}
use Rattle.smi_grant.specs.Holder.{is_free, odd_of}
use Rattle.smi_grant.specs.Record.{Standing, IsRecord, is_settled, last_epoch}
use Rattle.smi_command.specs.declared.link.Link.{Link}
use Rattle.smi_command.specs.declared.link.Link.TheVariants.{Out, Taking, Held, Dropping}
use Rattle.smi_command.specs.declared.link.Due.TheVariants.{Take, Drop, Run}
use Rattle.smi_command.specs.Hearing.{newest_settled, settled_count}
use Rattle.smi_command.specs.KnownGrant.{IsSpent, Waits}
use Rattle.smi_command.specs.Link.{known}
use Rattle.smi_command.specs.OneLink.{Datagram, Asks, Tells}
use Rattle.smi_command.proofs.Facts.{place, LinkOk, TellOk, SentOk, Fits}
use Rattle.smi_command.proofs.HeardCommands.{newest_at_most}
use Rattle.smi_grant.proofs.Holders.{held_odd}
use Rattle.smi_grant.proofs.Lawful.{none_settled}
use Rattle.smi_command.proofs.Waiting.{waits_less}

-- what a link may become, under this record
pub record Goes (r : Standing) (h : Holder) (l l' : Link) : Type 0 where
  pub ok : LinkOk r h l'
  pub further : known l ≤ known l'
  pub onward : place l ≤ place l'
  pub stays_open : (s : ℕ) → l ≡ Taking s → s ≡ r.epoch → is_free r.holder ≡ true → s < last_epoch → l' ≡ Taking s
  pub spends : (e n : ℕ) (c : Command) → Waits l e n c → IsSpent r e n ⊎ Waits l' e n c

pub sent_goes : (r : Standing) (h : Holder) (l l' : Link) (m : Datagram) → Goes r h l l' → SentOk r h l m
    → SentOk r h l' m
sent_goes r h l l' (Tells q) v o = record {
  earlier = o.earlier;
  over = λ mine less. let a = o.over mine less in
      omega (arith, v.further);
}
sent_goes r h l l' (Asks g (Take s)) v o = λ mine. let k = o mine in record {
  not_ahead = k.not_ahead;
  is_open = λ e free below. v.stays_open s (k.is_open e free below) e free below;
}
sent_goes r h l l' (Asks g (Drop e)) v o = λ mine. let k : e + e + 1 ≤ place l = o mine in omega (arith, v.onward)
sent_goes r h l l' (Asks g (Run e n c)) v o = λ mine. let k = o mine in record {
  within = k.within;
  begun = omega (arith, k.begun, v.further);
  spent = elim k.spent [ inl spent ↦ inl spent | inr waits ↦ v.spends e n c waits ];
}

pub fits_goes : (r : Standing) (h : Holder) (l l' : Link) (sent : List Datagram) → Goes r h l l' → Fits r h l sent
    → Fits r h l' sent
fits_goes r h l l' sent v f = record {
  lawful = f.lawful;
  link = v.ok;
  all_sent = λ m a. sent_goes r h l l' m v (f.all_sent m a);
}

pub stays : (r : Standing) (h : Holder) (l : Link) → LinkOk r h l → Goes r h l l
stays r h l o = record {
  ok = o;
  further = omega arith;
  onward = omega arith;
  stays_open = λ s is e f b. is;
  spends = λ e n c w. inr w;
}

-- The told table.

module _ (r : Standing) (h : Holder) (party : is_free h ≡ false) (lawful : IsRecord r) (q : Standing) where
  -- a free record is not this holder's
  not_mine : is_free q.holder ≡ true → q.holder ≡ h → ⊥
  not_mine free mine = let t : true ≡ false = sym free ∙ ap is_free mine ∙ party in cc

  pub learns : (s : ℕ) → TellOk r h (Taking s) q → LinkOk r h (Taking s) → q.epoch ≡ s + 1 → q.holder ≡ h
      → Goes r h (Taking s) (Held (s + 1) 0 [])
  learns s t o e mine =
      let now : q.epoch ≡ r.epoch = of_now (t.over mine) t.earlier.not_ahead in
      let holder : r.holder ≡ h = sym (t.earlier.same_one now) ∙ mine in
      let last : r.last ≡ 0 = (o.1 holder).1 in
      record {
        ok = (
          sym now ∙ e,
          holder,
          record {
            few = omega arith;
            counted = omega arith;
            not_before = omega arith;
            not_beyond = omega arith;
            all_settled = λ a. none_settled r lawful last;
          },
          omega arith,
        );
        further = omega arith;
        onward = omega arith;
        stays_open = λ u is at f b. let same : s ≡ u = cc in absurd (omega arith);
        spends = λ f n c w. let is = w.is in absurd cc;
      }
    where
      of_now : (q.epoch < r.epoch → q.epoch ≤ s) → q.epoch ≤ r.epoch → q.epoch ≡ r.epoch
      of_now over ahead = grind arith

  pub gives_up : (s : ℕ) → TellOk r h (Taking s) q → LinkOk r h (Taking s) → q.epoch ≡ last_epoch
      → is_free q.holder ≡ true → Goes r h (Taking s) (Out last_epoch)
  gives_up s t o e free =
      let now : q.epoch ≡ r.epoch = omega (arith, t.earlier.not_ahead, lawful.epoch) in
      record {
        ok = (omega arith, λ mine. not_mine free (t.earlier.same_one now ∙ mine));
        further = omega (arith, o.0);
        onward = omega (arith, o.0);
        stays_open = λ u is at f b. let same : s ≡ u = cc in absurd (omega arith);
        spends = λ f n c w. let is = w.is in absurd cc;
      }

  pub renews : (s : ℕ) → TellOk r h (Taking s) q → LinkOk r h (Taking s) → s < q.epoch → is_free q.holder ≡ true
      → Goes r h (Taking s) (Taking q.epoch)
  renews s t o less free = record {
    ok = (
      t.earlier.not_ahead,
      λ mine. let a = o.1 mine in
          absurd (not_mine free (t.earlier.same_one (omega (arith, t.earlier.not_ahead)) ∙ mine)),
    );
    further = omega arith;
    onward = omega arith;
    stays_open = λ u is at f b. let same : s ≡ u = cc in absurd (omega (arith, t.earlier.not_ahead));
    spends = λ f n c w. let is = w.is in absurd cc;
  }

  pub loses : (s : ℕ) → TellOk r h (Taking s) q → LinkOk r h (Taking s) → s ≤ q.epoch → is_free q.holder ≡ false
      → (q.holder ≡ h → ⊥) → Goes r h (Taking s) (Out q.epoch)
  loses s t o less held other = record {
    ok = (t.earlier.not_ahead, λ mine. other (t.earlier.same_one (same mine) ∙ mine));
    further = less;
    onward = omega arith;
    stays_open = λ u is at f b. let is_s : s ≡ u = cc in absurd (free_now f (omega (arith, t.earlier.not_ahead)));
    spends = λ f n c w. let is = w.is in absurd cc;
  }
    where
      same : r.holder ≡ h → q.epoch ≡ r.epoch
      same mine =
          let odd : odd_of r.holder ≡ 1 = ap odd_of mine ∙ held_odd h party in
          let odd' : odd_of q.holder ≡ 1 = held_odd q.holder held in
          omega (arith, lawful.parity, t.earlier.parity, t.earlier.not_ahead, (o.1 mine).0)

      free_now : is_free r.holder ≡ true → q.epoch ≡ r.epoch → ⊥
      free_now f now = let b : true ≡ false = sym f ∙ ap is_free (sym (t.earlier.same_one now)) ∙ held in cc

  -- some pending commands have settled
  pub settles : (e n : ℕ) (p : List Command) → TellOk r h (Held e n p) q → LinkOk r h (Held e n p) → q.epoch ≡ e
      → Goes r h (Held e n p) (Held e n (drop (settled_count n p q) p))
  settles e n p t o at =
      let k = settled_count n p q in
      let now : q.epoch ≡ r.epoch = at ∙ sym o.0 in
      let behind : q.last ≤ r.last = t.earlier.behind now in
      let newest : newest_settled q ≤ q.last = newest_at_most q in
      let less : length (drop k p) ≡ length p - k = length-drop k p in
      record {
        ok = (
          o.0,
          o.1,
          record {
            few = omega (arith, o.2.few);
            counted = omega (arith, o.2.counted);
            not_before = omega (arith, o.2.not_before, o.2.counted);
            not_beyond = o.2.not_beyond;
            all_settled = λ a. elim (none k) [
              | inl z ↦ o.2.all_settled (omega (arith, o.2.counted))
              | inr some ↦ t.earlier.is_done now (omega (arith, o.2.counted))
                  (newest_done q (omega (arith, o.2.counted)) (omega (arith, o.2.counted)))
            ];
          },
          o.3,
        );
        further = omega arith;
        onward = omega arith;
        stays_open = λ u is. absurd cc;
        spends = λ f m c w. elim (waits_less e n k p f m c o.2.counted (omega arith) w) [
          | inl low ↦ inl
              (inr (let is = w.is in let same : e ≡ f = cc in sym same ∙ sym o.0, omega (arith, o.2.not_before)))
          | inr still ↦ inr still
        ];
      }
    where
      none : (k : ℕ) → (k ≡ 0) ⊎ (0 < k)
      none k = grind arith

      -- where the record shows its last command to have settled, it is settled
      newest_done : (s : Standing) → 0 < s.last → newest_settled s ≡ s.last → s.phase ≡ Settled
      newest_done s some same = by_phase s.phase same
        where
          by_phase : (x : Phase) → (if is_settled x then s.last else s.last - 1) ≡ s.last → x ≡ Settled
          by_phase Settled same' = refl
          by_phase Busy same' = absurd (omega arith)

  pub is_out : (e : ℕ) → TellOk r h (Dropping e) q → LinkOk r h (Dropping e) → e < q.epoch
      → Goes r h (Dropping e) (Out q.epoch)
  is_out e t o less = record {
    ok = (t.earlier.not_ahead, λ mine. let a = (o.1 mine).0 in absurd (omega (arith, t.earlier.not_ahead)));
    further = omega arith;
    onward = omega arith;
    stays_open = λ u is. absurd cc;
    spends = λ f n c w. let is = w.is in absurd cc;
  }
