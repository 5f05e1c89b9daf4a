-- Each domain and each of its holders in the world is one pair of a keeper and a link, whatever happens.
use Rattle.std.proofs.Common.{ℕ, zero, suc, ◌≡◌, Bool, true, false, List, [], ◌∷◌, inl, inr, refl, sym, ap, subst}
use Rattle.std.specs.Prelude.{slice_get, Option, Some, None}
use Rattle.smi_grant.specs.declared.Holder.{Holder}
use Rattle.smi_grant.specs.Holder.{is_free, same_holder}
use Rattle.smi_grant.specs.Record.{Standing}
use Rattle.smi_message.specs.declared.Body.{Body}
use Rattle.smi_message.specs.declared.Body.TheVariants as body
use Rattle.smi_message.specs.Message.{Message}
use Rattle.smi_command.specs.declared.Link.{Link}
use Rattle.smi_command.specs.declared.Due.{Due}
use Rattle.smi_command.specs.declared.Due.TheVariants.{Take, Drop, Run}
use Rattle.smi_command.specs.Hearing.{told_link}
use Rattle.smi_command.specs.Link.{due_of}
use Rattle.smi_command.specs.OneLink.{Datagram, Asks, Tells, Pair, asked_record, relinked, commanded, sent_due}
use Rattle.smi_command.specs.OneLink.{delivered, has_number, is_stranger, Event, OrderTake, OrderCommand, OrderDrop}
use Rattle.smi_command.specs.OneLink.{SendDue, Deliver, Settle, Stranger, Ask, after, Among}
use Rattle.smi_grant.proofs.Holders.{told_apart}
use Rattle.smi_protocol.specs.Messages.{request}
use Rattle.smi_law.specs.World.{Among as IsSent}
use Rattle.smi_law.proofs.Moves as move
use Rattle.smi_law.proofs.Moves.{RecordMove, LinkMove}

-- what has been sent about the domain, by its keeper and by this holder, is among a pair's datagrams
abbrev pub Covers : ℕ → Holder → List Datagram → Body → Type 0
Covers d me sent (body.Tell x r) = x ≡ d → Among (Tells r) sent
Covers d me sent (body.Take x who s) = x ≡ d → who ≡ me → Among (Asks who (Take s)) sent
Covers d me sent (body.Drop x who e) = x ≡ d → who ≡ me → Among (Asks who (Drop e)) sent
Covers d me sent (body.Run x who e n c) = x ≡ d → who ≡ me → Among (Asks who (Run e n c)) sent
Covers d me sent (body.Ask x) = Unit {0}
Covers d me sent (body.Watch x echo) = Unit {0}
Covers d me sent (body.State x echo v s) = Unit {0}
Covers d me sent (body.Unwatch x echo) = Unit {0}

pub covers_more : (d : ℕ) (me : Holder) (old new : List Datagram) → ((k : Datagram) → Among k old → Among k new)
    → (b : Body) → Covers d me old b → Covers d me new b
covers_more d me old new more (body.Tell x r) c = λ i. more (Tells r) (c i)
covers_more d me old new more (body.Take x who s) c = λ i j. more (Asks who (Take s)) (c i j)
covers_more d me old new more (body.Drop x who e) c = λ i j. more (Asks who (Drop e)) (c i j)
covers_more d me old new more (body.Run x who e n k) c = λ i j. more (Asks who (Run e n k)) (c i j)
covers_more d me old new more (body.Ask x) c = tt
covers_more d me old new more (body.Watch x echo) c = tt
covers_more d me old new more (body.State x echo v s) c = tt
covers_more d me old new more (body.Unwatch x echo) c = tt

covers_request : (d : ℕ) (me : Holder) (sent : List Datagram) (due : Due) → Covers d me sent (request d me due)
    → Among (Asks me due) sent
covers_request d me sent (Take s) c = c refl refl
covers_request d me sent (Drop e) c = c refl refl
covers_request d me sent (Run e n k) c = c refl refl

-- what is among the datagrams is at some place
pub record At (k : Datagram) (sent : List Datagram) : Type 0 where
  pub place : ℕ
  pub is : slice_get sent place ≡ Some k

pub among_at : (k : Datagram) (sent : List Datagram) → Among k sent → At k sent
among_at k [] a = absurd a
among_at k (x ∷ sent) (inl same) = record { place = zero; is = ap Some (sym same) }
among_at k (x ∷ sent) (inr a) = let s = among_at k sent a in record { place = suc s.place; is = s.is }

-- Requests that a holder may make.

pub record InRange (who : Holder) (due : Due) : Type 0 where
  pub held : is_free who ≡ false
  pub number : has_number due ≡ true

-- a request is a holder's, and its number one that a grant can have
abbrev pub Fair : Body → Type 0
Fair (body.Take d who s) = InRange who (Take s)
Fair (body.Drop d who e) = InRange who (Drop e)
Fair (body.Run d who e n c) = InRange who (Run e n c)
Fair (body.Tell d r) = Unit {0}
Fair (body.Ask d) = Unit {0}
Fair (body.Watch x echo) = Unit {0}
Fair (body.State x echo v s) = Unit {0}
Fair (body.Unwatch x echo) = Unit {0}

pub fair_request : (d : ℕ) (who : Holder) (due : Due) → Fair (request d who due) → InRange who due
fair_request d who (Take s) f = f
fair_request d who (Drop e) f = f
fair_request d who (Run e n c) f = f

-- One event of a pair, or none.

abbrev pub stepped : Holder → Pair → Option Event → Pair
stepped me p None = p
stepped me p (Some e) = after me p e

pub record Recorded (me : Holder) (p : Pair) (r : Standing) : Type 0 where
  pub event : Option Event
  pub kept : (stepped me p event).kept ≡ r
  pub link : (stepped me p event).link ≡ p.link
  pub keeps : (k : Datagram) → Among k p.sent → Among k (stepped me p event).sent

asked_by_me : (me : Holder) (p : Pair) (due : Due) (busy : Bool) (x : ℕ) → At (Asks me due) p.sent
    → Recorded me p (asked_record p.kept me due busy x)
asked_by_me me p due busy x at = record {
  event = Some (Deliver at.place busy x);
  kept = ap (λ z. (delivered me p z busy x).kept) at.is;
  link = ap (λ z. (delivered me p z busy x).link) at.is;
  keeps = λ k a. subst (λ z. Among k (delivered me p z busy x).sent) (sym at.is) (inr a);
}

asked_by_another : (me : Holder) (p : Pair) (who : Holder) (due : Due) (busy : Bool) (x : ℕ)
    → is_stranger me who due ≡ true → Recorded me p (asked_record p.kept who due busy x)
asked_by_another me p who due busy x t = record {
  event = Some (Stranger who due busy x);
  kept = rw t refl;
  link = rw t refl;
  keeps = λ k a. rw t (inr a);
}

is_strange : (me who : Holder) (due : Due) → InRange who due → same_holder who me ≡ false
    → is_stranger me who due ≡ true
is_strange me who due r f = rw r.held (rw f r.number)

-- a move of the record is an event of the pair
pub recorded : (d : ℕ) (me : Holder) (p : Pair) (sent : List Message) → ((m : Message) → IsSent m sent → Fair m.body)
    → ((m : Message) → IsSent m sent → Covers d me p.sent m.body) → (r : Standing) → RecordMove sent d p.kept r
    → Recorded me p r
recorded d me p sent range covers r move.rests = record { event = None; kept = refl; link = refl; keeps = λ k a. a }
recorded d me p sent range covers r (move.ends x) =
    record { event = Some (Settle x); kept = refl; link = refl; keeps = λ k a. a }
recorded d me p sent range covers r (move.asked m who due a b busy x) = elim (told_apart who me) [
  | inl s ↦
      let c : Covers d me p.sent (request d me due) = subst (λ z. Covers d me p.sent (request d z due)) s.1
      (subst (Covers d me p.sent) b (covers m a)) in
      subst (λ z. Recorded me p (asked_record p.kept z due busy x)) (sym s.1)
      (asked_by_me me p due busy x (among_at (Asks me due) p.sent (covers_request d me p.sent due c)))
  | inr o ↦
      asked_by_another me p who due busy x
      (is_strange me who due (fair_request d who due (subst Fair b (range m a))) o.0)
]

pub record Relinked (me : Holder) (p : Pair) (l : Link) : Type 0 where
  pub event : Option Event
  pub kept : (stepped me p event).kept ≡ p.kept
  pub link : (stepped me p event).link ≡ l
  pub keeps : (k : Datagram) → Among k p.sent → Among k (stepped me p event).sent

told_here : (me : Holder) (p : Pair) (r : Standing) → At (Tells r) p.sent → Relinked me p (told_link p.link me r)
told_here me p r at = record {
  event = Some (Deliver at.place false 0);
  kept = ap (λ z. (delivered me p z false 0).kept) at.is;
  link = ap (λ z. (delivered me p z false 0).link) at.is;
  keeps = λ k a. subst (λ z. Among k (delivered me p z false 0).sent) (sym at.is) a;
}

-- a move of the link is an event of the pair
pub relinks : (d : ℕ) (me : Holder) (p : Pair) (sent : List Message)
    → ((m : Message) → IsSent m sent → Covers d me p.sent m.body) → (l : Link) → LinkMove sent d me p.link l
    → Relinked me p l
relinks d me p sent covers l move.stays = record { event = None; kept = refl; link = refl; keeps = λ k a. a }
relinks d me p sent covers l (move.takes new is) = record {
  event = Some OrderTake;
  kept = ap (λ z. (relinked p z).kept) is;
  link = ap (λ z. (relinked p z).link) is;
  keeps = λ k a. subst (λ z. Among k (relinked p z).sent) (sym is) a;
}
relinks d me p sent covers l (move.drops new is) = record {
  event = Some OrderDrop;
  kept = ap (λ z. (relinked p z).kept) is;
  link = ap (λ z. (relinked p z).link) is;
  keeps = λ k a. subst (λ z. Among k (relinked p z).sent) (sym is) a;
}
relinks d me p sent covers l (move.commands c new is) = record {
  event = Some (OrderCommand c);
  kept = ap (λ z. (commanded me p c z).kept) is;
  link = ap (λ z. (commanded me p c z).link) is;
  keeps = λ k a. subst (λ z. Among k (commanded me p c z).sent) (sym is) a;
}
relinks d me p sent covers l (move.hears m r a b) =
    told_here me p r (among_at (Tells r) p.sent (subst (Covers d me p.sent) b (covers m a) refl))

-- Sending.

-- the pair with one more datagram, of its own
pub record Said (me : Holder) (p : Pair) (k : Datagram) : Type 0 where
  pub event : Event
  pub kept : (after me p event).kept ≡ p.kept
  pub link : (after me p event).link ≡ p.link
  pub keeps : (j : Datagram) → Among j p.sent → Among j (after me p event).sent
  pub adds : Among k (after me p event).sent

pub tells_now : (me : Holder) (p : Pair) → Said me p (Tells p.kept)
tells_now me p = record { event = Ask; kept = refl; link = refl; keeps = λ j a. inr a; adds = inl refl }

pub asks_now : (me : Holder) (p : Pair) (i : ℕ) (due : Due) → due_of p.link i ≡ Some due → Said me p (Asks me due)
asks_now me p i due is = record {
  event = SendDue i;
  kept = ap (λ z. (sent_due me p z).kept) is;
  link = ap (λ z. (sent_due me p z).link) is;
  keeps = λ j a. subst (λ z. Among j (sent_due me p z).sent) (sym is) (inr a);
  adds = subst (λ z. Among (Asks me due) (sent_due me p z).sent) (sym is) (inl refl);
}
