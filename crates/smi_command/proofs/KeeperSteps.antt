-- The keeper's steps keep the facts on a holder's link and on what was sent.
use Rattle.std.proofs.Common.{ℕ, ◌≡◌, ◌≤◌, ◌<◌, ◌+◌, Bool, true, false, List, ◌∷◌, ◌⊎◌, inl, inr, refl, sym, ap, ◌∙◌}
use Rattle.std.proofs.Common.{subst, arith}
use Rattle.smi_grant.specs.declared.command.Command.{Command}
use Rattle.smi_grant.specs.declared.holder.Holder.{Holder}
use Rattle.smi_grant.specs.declared.holder.Holder.TheVariants.{Free}
use Rattle.smi_grant.specs.Holder.{is_free}
use Rattle.smi_grant.specs.Keeper.{handed, started, settled}
use Rattle.smi_grant.specs.Record.{Standing, IsRecord}
use Rattle.smi_command.specs.declared.link.Link.{Link}
use Rattle.smi_command.specs.declared.link.Link.TheVariants.{Out, Taking, Held, Dropping}
use Rattle.smi_command.specs.declared.link.Due.TheVariants.{Take, Drop, Run}
use Rattle.smi_command.specs.KnownGrant.{IsSpent, Waits}
use Rattle.smi_command.specs.Link.{known}
use Rattle.smi_command.specs.OneLink.{Datagram, Asks, Tells}
use Rattle.smi_command.proofs.Facts.{place, LinkOk, NoLater, TellOk, SentOk, Fits}
use Rattle.smi_grant.proofs.Holders.{free_not_held}
use Rattle.smi_command.proofs.Waiting.{waiting_number}

-- Records in time.

pub no_later : (r : Standing) → IsRecord r → NoLater r r
no_later r i = record {
  not_ahead = omega arith;
  same_one = λ e. refl;
  behind = λ e. omega arith;
  is_done = λ e l s. s;
  parity = i.parity;
}

pub and_later : (q r s : Standing) → NoLater q r → NoLater r s → NoLater q s
and_later q r s a b = record {
  not_ahead = omega (arith, a.not_ahead, b.not_ahead);
  same_one = λ e. a.same_one (left e) ∙ b.same_one (right e);
  behind = λ e. let x = a.behind (left e) in let y = b.behind (right e) in omega arith;
  is_done = λ e l d. let x = a.behind (left e) in let y = b.behind (right e) in
      b.is_done (right e) (omega arith) (a.is_done (left e) (omega arith) d);
  parity = a.parity;
}
  where
    left : q.epoch ≡ s.epoch → q.epoch ≡ r.epoch
    left e = omega (arith, a.not_ahead, b.not_ahead)

    right : q.epoch ≡ s.epoch → r.epoch ≡ s.epoch
    right e = omega (arith, a.not_ahead, b.not_ahead)

pub handed_later : (r : Standing) (g : Holder) → IsRecord r → NoLater r (handed r g)
handed_later r g i = record {
  not_ahead = omega arith;
  same_one = λ e. absurd (omega arith);
  behind = λ e. absurd (omega arith);
  is_done = λ e. absurd (omega arith);
  parity = i.parity;
}

pub started_later : (r : Standing) (busy : Bool) (x : ℕ) → IsRecord r → NoLater r (started r busy x)
started_later r true x i = record {
  not_ahead = omega arith;
  same_one = λ e. refl;
  behind = λ e. omega arith;
  is_done = λ e l. absurd (omega arith);
  parity = i.parity;
}
started_later r false x i = record {
  not_ahead = omega arith;
  same_one = λ e. refl;
  behind = λ e. omega arith;
  is_done = λ e l s. refl;
  parity = i.parity;
}

pub settled_later : (r : Standing) (x : ℕ) → IsRecord r → NoLater r (settled r x)
settled_later r x i = record {
  not_ahead = omega arith;
  same_one = λ e. refl;
  behind = λ e. omega arith;
  is_done = λ e l s. refl;
  parity = i.parity;
}

spent_later : (r s : Standing) (e n : ℕ) → NoLater r s → IsSpent r e n → IsSpent s e n
spent_later r s e n t (inl over) = inl (omega (arith, t.not_ahead))
spent_later r s e n t (inr ran) = elim (before r.epoch s.epoch t.not_ahead) [
  | inl less ↦ inl (omega (arith, ran.0))
  | inr same ↦ inr (ran.0 ∙ same, let more = t.behind same in omega (arith, ran.1))
]
  where
    before : (a b : ℕ) → a ≤ b → (a < b) ⊎ (a ≡ b)
    before a b h = grind arith

-- what was sent fits a later record too, where the link knows of its holder's grant if that is over
pub sent_later : (r s : Standing) (h : Holder) (l : Link) (m : Datagram) → NoLater r s
    → (r.holder ≡ h → r.epoch < s.epoch → r.epoch ≤ known l) → SentOk r h l m → SentOk s h l m
sent_later r s h l (Tells q) t gone o = record {
  earlier = and_later q r s o.earlier t;
  over = λ mine less. elim (before q.epoch r.epoch o.earlier.not_ahead) [
    | inl b ↦ o.over mine b
    | inr same ↦ let known_now = gone (sym (o.earlier.same_one same) ∙ mine) (omega arith) in omega arith
  ];
}
  where
    before : (a b : ℕ) → a ≤ b → (a < b) ⊎ (a ≡ b)
    before a b h' = grind arith
sent_later r s h l (Asks g (Take seen)) t gone o = λ mine. let k = o mine in record {
  not_ahead = omega (arith, k.not_ahead, t.not_ahead);
  is_open = λ e free b.
      let same : r.epoch ≡ s.epoch = omega (arith, k.not_ahead, t.not_ahead) in
      k.is_open (omega arith) (ap is_free (t.same_one same) ∙ free) b;
}
sent_later r s h l (Asks g (Drop e)) t gone o = o
sent_later r s h l (Asks g (Run e n c)) t gone o = λ mine. let k = o mine in record {
  within = k.within;
  begun = k.begun;
  spent = elim k.spent [ inl spent ↦ inl (spent_later r s e n t spent) | inr waits ↦ inr waits ];
}

pub tell_now : (r : Standing) (h : Holder) (l : Link) → IsRecord r → TellOk r h l r
tell_now r h l i = record { earlier = no_later r i; over = λ e less. absurd (omega arith) }

pub one_more : (r : Standing) (h : Holder) (l : Link) (sent : List Datagram) (m : Datagram) → Fits r h l sent
    → SentOk r h l m → Fits r h l (m ∷ sent)
one_more r h l sent m f ok = record {
  lawful = f.lawful;
  link = f.link;
  all_sent = λ k a. elim a [ inl e ↦ subst (λ y. SentOk r h l y) (sym e) ok | inr b ↦ f.all_sent k b ];
}

-- the record goes on to a later one
pub fits_later : (r s : Standing) (h : Holder) (l : Link) (sent : List Datagram) → Fits r h l sent → IsRecord s
    → LinkOk s h l → NoLater r s → (r.holder ≡ h → r.epoch < s.epoch → r.epoch ≤ known l) → Fits s h l sent
fits_later r s h l sent f lawful link t gone = record {
  lawful = lawful;
  link = link;
  all_sent = λ m a. sent_later r s h l m t gone (f.all_sent m a);
}

-- Links, where the record goes on.

module _ (r : Standing) (h : Holder) (party : is_free h ≡ false) where
  not_free : is_free r.holder ≡ true → r.holder ≡ h → ⊥
  not_free free e = free_not_held r.holder free (ap is_free e ∙ party)

  free_other : Free ≡ h → ⊥
  free_other e = free_not_held h (sym (ap is_free e)) party

  pub granted_link : (g : Holder) (l : Link) → is_free r.holder ≡ true → (g ≡ h → l ≡ Taking r.epoch) → LinkOk r h l
      → LinkOk (handed r g) h l
  granted_link g (Out k) free mine o = (omega (arith, o.0), λ e. let t = mine e in cc)
  granted_link g (Taking s) free mine o = (
    omega (arith, o.0),
    λ e. let t = mine e in let is : s ≡ r.epoch = cc in
        (omega arith, refl),
  )
  granted_link g (Held e n p) free mine o = absurd (not_free free o.1)
  granted_link g (Dropping f) free mine o = (omega (arith, o.0), λ e. let t = mine e in absurd cc)

  pub freed_link : (l : Link) → (r.holder ≡ h → r.epoch + r.epoch + 1 ≤ place l) → LinkOk r h l
      → LinkOk (handed r Free) h l
  freed_link (Out k) gone o = (omega (arith, o.0), free_other)
  freed_link (Taking s) gone o = (omega (arith, o.0), λ e. absurd (free_other e))
  freed_link (Held e n p) gone o = let far = gone o.1 in absurd (omega (arith, o.0))
  freed_link (Dropping f) gone o = (omega (arith, o.0), λ e. absurd (free_other e))

  pub started_link : (busy : Bool) (x : ℕ) (c : Command) (l : Link) → (r.holder ≡ h → Waits l r.epoch (r.last + 1) c)
      → LinkOk r h l → LinkOk (started r busy x) h l
  started_link true x c (Out k) mine o = (o.0, o.1)
  started_link false x c (Out k) mine o = (o.0, o.1)
  started_link true x c (Taking s) mine o = (o.0, λ e. let w = mine e in let is = w.is in absurd cc)
  started_link false x c (Taking s) mine o = (o.0, λ e. let w = mine e in let is = w.is in absurd cc)
  started_link true x c (Held e n p) mine o =
      let w = waiting_number e n p r.epoch (r.last + 1) c o.2.counted (mine o.1) in (
        o.0,
        o.1,
        record {
          few = o.2.few;
          counted = o.2.counted;
          not_before = omega (arith, w.0);
          not_beyond = w.1;
          all_settled = λ a. absurd (omega (arith, w.0, o.2.not_before));
        },
        o.3,
      )
  started_link false x c (Held e n p) mine o =
      let w = waiting_number e n p r.epoch (r.last + 1) c o.2.counted (mine o.1) in (
        o.0,
        o.1,
        record {
          few = o.2.few;
          counted = o.2.counted;
          not_before = omega (arith, w.0);
          not_beyond = w.1;
          all_settled = λ a. refl;
        },
        o.3,
      )
  started_link true x c (Dropping f) mine o = (o.0, λ e. let w = mine e in let is = w.is in absurd cc)
  started_link false x c (Dropping f) mine o = (o.0, λ e. let w = mine e in let is = w.is in absurd cc)

  pub settled_link : (x : ℕ) (l : Link) → LinkOk r h l → LinkOk (settled r x) h l
  settled_link x (Out k) o = (o.0, o.1)
  settled_link x (Taking s) o = (o.0, o.1)
  settled_link x (Held e n p) o = (
    o.0,
    o.1,
    record {
      few = o.2.few;
      counted = o.2.counted;
      not_before = o.2.not_before;
      not_beyond = o.2.not_beyond;
      all_settled = λ a. refl;
    },
    o.3,
  )
  settled_link x (Dropping f) o = (o.0, λ e. ((o.1 e).0, refl))
