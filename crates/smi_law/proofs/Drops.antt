-- A link that gives up the grant of the present epoch is that of the record's holder.
use Rattle.std.proofs.Common.{ℕ, ◌≡◌, ◌<◌, Bool, true, false, List, [], ◌∷◌, ◌⊎◌, inl, inr, refl, sym, ◌∙◌, subst}
use Rattle.std.proofs.Common.{arith}
use Rattle.std.specs.Prelude.{◌==◌, ◌&&◌, nat_lt, Option, Some, None, Result, Ok, Err, slice_get}
use Rattle.smi_grant.specs.declared.Command.{Command}
use Rattle.smi_grant.specs.declared.Holder.{Holder}
use Rattle.smi_grant.specs.declared.Holder.TheVariants.{Free}
use Rattle.smi_grant.specs.declared.Verdict.TheVariants.{New, Same}
use Rattle.smi_grant.specs.Holder.{is_free, same_holder}
use Rattle.smi_grant.specs.Keeper.{admits, handed, started}
use Rattle.smi_grant.specs.Record.{Standing, is_settled, last_epoch}
use Rattle.smi_command.specs.declared.Due.{Due}
use Rattle.smi_command.specs.declared.Due.TheVariants.{Take, Drop, Run}
use Rattle.smi_command.specs.declared.Link.{Link}
use Rattle.smi_command.specs.declared.Link.TheVariants.{Out, Taking, Held, Dropping}
use Rattle.smi_command.specs.Hearing.{told_link}
use Rattle.smi_command.specs.Link.{due_of}
use Rattle.smi_command.specs.OneLink.{Pair, Event, OrderTake, OrderCommand, OrderDrop, SendDue, Deliver, Settle}
use Rattle.smi_command.specs.OneLink.{Stranger}
use Rattle.smi_command.specs.OneLink.{Ask, Datagram, Asks, Tells, after, asked, asked_record, kept_after, reached}
use Rattle.smi_command.specs.OneLink.{delivered}
use Rattle.smi_command.specs.OneLink.{commanded, relinked, sent_due, settled_record, is_stranger}
use Rattle.smi_command.specs.Order.{take_begun, command_issued, drop_begun}
use Rattle.smi_command.proofs.Facts.{LinkOk}
use Rattle.smi_command.proofs.Heard.{choose, by_row_taking, by_row_held, by_row_dropping}
use Rattle.smi_command.proofs.OneLinkKept.{Well, reached_well}
use Rattle.smi_command.proofs.Orders.{take_begins, drop_begins, command_issues}
use Rattle.smi_tree.specs.Hierarchy.{Hierarchy}
use Rattle.smi_protocol.specs.declared.Entry.{Entry}
use Rattle.smi_protocol.specs.Schedule.{World}
use Rattle.smi_law.specs.Known.{record_in, link_in}
use Rattle.smi_law.specs.World.{Reaches}
use Rattle.smi_law.proofs.Viewed.{viewed}

-- the grant that is given up is the present one, or over
abbrev pub DropsOwn : Standing → Holder → Link → Type 0
DropsOwn r me l = (e : ℕ) → l ≡ Dropping e → r.epoch ≡ e → r.holder ≡ me

-- The record goes on.

-- the same grant, or a later epoch
abbrev Later : Standing → Standing → Type 0
Later r s = ((s.epoch ≡ r.epoch) × (s.holder ≡ r.holder)) ⊎ (r.epoch < s.epoch)

handed_later : (r : Standing) (h : Holder) → Later r (handed r h)
handed_later r h = inr (omega arith)

asked_later : (r : Standing) (h : Holder) (d : Due) (busy : Bool) (x : ℕ) → Later r (asked_record r h d busy x)
asked_later r h (Take s) busy x =
    choose (λ v. Later r (kept_after r v)) (is_free r.holder && (r.epoch == s && nat_lt s last_epoch))
    (New (handed r h)) Same (λ t. handed_later r h) (λ f. inl (refl, refl))
asked_later r h (Drop e) busy x =
    choose (λ v. Later r (kept_after r v)) (same_holder r.holder h && (r.epoch == e && is_settled r.phase))
    (New (handed r Free)) Same (λ t. handed_later r Free) (λ f. inl (refl, refl))
asked_later r h (Run e n c) busy x =
    choose (λ s. Later r s) (admits r h e n) (started r busy x) r (λ t. by busy) (λ f. inl (refl, refl))
  where
    by : (b : Bool) → Later r (started r b x)
    by true = inl (refl, refl)
    by false = inl (refl, refl)

settled_keeps : (r : Standing) (x : ℕ) → Later r (settled_record r x)
settled_keeps r x = choose (λ s. Later r s) (is_settled r.phase) r _ (λ t. inl (refl, refl)) (λ f. inl (refl, refl))

later_own : (r s : Standing) (me : Holder) (l : Link) → LinkOk r me l → Later r s → DropsOwn r me l → DropsOwn s me l
later_own r s me l o (inl same) own e is at = same.1 ∙ own e is (sym same.0 ∙ at)
later_own r s me l o (inr less) own e is at =
    let ok : LinkOk r me (Dropping e) = subst (LinkOk r me) is o in
    absurd (omega (arith, ok.0, less, at))

-- The link goes on.

told_own : (r : Standing) (me : Holder) (l : Link) (q : Standing) → DropsOwn r me l → DropsOwn r me (told_link l me q)
told_own r me (Out k) q own = own
told_own r me (Taking s) q own = by_row_taking (λ l k. DropsOwn r me k) me q s
    (λ e mine f is. absurd cc) (λ free e f is. absurd cc) (λ free less f is. absurd cc)
    (λ held other less f is. absurd cc) own
told_own r me (Held e n p) q own = by_row_held (λ l k. DropsOwn r me k) me q e n p (λ at f is. absurd cc) own
told_own r me (Dropping e) q own = by_row_dropping (λ l k. DropsOwn r me k) me q e (λ less f is. absurd cc) own

-- Every event.

module _ (me : Holder) (p : Pair) (w : Well me p) (own : DropsOwn p.kept me p.link) where
  take_own : (x : Result Link ℕ) → take_begun p.link ≡ x → DropsOwn (relinked p x).kept me (relinked p x).link
  take_own (Err code) is = own
  take_own (Ok m) is = λ e a. let begins = take_begins p.link m is in
      absurd (let wrong : Taking begins.0 ≡ Dropping e = sym begins.2 ∙ a in cc)

  drop_own : (x : Result Link ℕ) → drop_begun p.link ≡ x → DropsOwn (relinked p x).kept me (relinked p x).link
  drop_own (Err code) is = own
  drop_own (Ok m) is = λ e a at.
      let begins = drop_begins p.link m is in
      let ok : LinkOk p.kept me (Held begins.0 begins.1 []) = subst (LinkOk p.kept me) begins.2 w.fits.link in
      ok.1

  command_own : (c : Command) (x : Result Link ℕ) → command_issued p.link c ≡ x
      → DropsOwn (commanded me p c x).kept me (commanded me p c x).link
  command_own c (Err code) is = own
  command_own c (Ok m) is = λ e a. let i = command_issues p.link c m is in
      absurd (let wrong = sym i.becomes ∙ a in cc)

  send_own : (o : Option Due) → DropsOwn (sent_due me p o).kept me (sent_due me p o).link
  send_own None = own
  send_own (Some d) = own

  asked_own : (h : Holder) (d : Due) (busy : Bool) (x : ℕ) → DropsOwn (asked p h d busy x).kept me
      (asked p h d busy x).link
  asked_own h d busy x = later_own p.kept (asked_record p.kept h d busy x) me p.link w.fits.link
      (asked_later p.kept h d busy x) own

  deliver_own : (o : Option Datagram) (busy : Bool) (x : ℕ)
      → DropsOwn (delivered me p o busy x).kept me (delivered me p o busy x).link
  deliver_own None busy x = own
  deliver_own (Some (Tells q)) busy x = told_own p.kept me p.link q own
  deliver_own (Some (Asks h d)) busy x = asked_own h d busy x

  after_own : (e : Event) → DropsOwn (after me p e).kept me (after me p e).link
  after_own OrderTake = take_own (take_begun p.link) refl
  after_own (OrderCommand c) = command_own c (command_issued p.link c) refl
  after_own OrderDrop = drop_own (drop_begun p.link) refl
  after_own (SendDue i) = send_own (due_of p.link i)
  after_own (Deliver i busy x) = deliver_own (slice_get p.sent i) busy x
  after_own (Settle x) = later_own p.kept (settled_record p.kept x) me p.link w.fits.link (settled_keeps p.kept x) own
  after_own (Stranger h d busy x) = choose (λ (q : Pair). DropsOwn q.kept me q.link) (is_stranger me h d)
      (asked p h d busy x) p (λ t. asked_own h d busy x) (λ f. own)
  after_own Ask = own

reached_own : (me : Holder) (events : List Event) → is_free me ≡ false
    → DropsOwn (reached me events).kept me (reached me events).link
reached_own me [] party = λ e is. absurd cc
reached_own me (x ∷ earlier) party =
    after_own me (reached me earlier) (reached_well me earlier party) (reached_own me earlier party) x

pub drops_own : (h : Hierarchy) (past : List Entry) (w : World) → Reaches h past w → (me : Holder) (d : ℕ)
    → is_free me ≡ false → DropsOwn (record_in h w d) me (link_in h w me d)
drops_own h past w run me d party =
    let v = (viewed h past w run).each d me in
    subst (λ l. DropsOwn (record_in h w d) me l) v.link
    (subst (λ r. DropsOwn r me (reached me v.events).link) v.kept (reached_own me v.events party))
