-- Every event keeps the facts on one link and its keeper.
use Rattle.std.proofs.Common.{ℕ, zero, suc, ◌≡◌, ◌≤◌, ◌+◌, Bool, true, false, List, [], ◌∷◌, ◌++◌, Some, None, ◌⊎◌}
use Rattle.std.proofs.Common.{inl, inr, refl, sym, ap, ◌∙◌, subst, arith}
use Rattle.std.specs.Prelude.{not, if◌then◌else◌, slice_get, Option, Result, Ok, Err}
use Rattle.std.proofs.lemmas.Bool.{and_parts}
use Rattle.smi_grant.specs.declared.command.Command.{Command}
use Rattle.smi_grant.specs.declared.holder.Holder.{Holder}
use Rattle.smi_grant.specs.Holder.{is_free, same_holder}
use Rattle.smi_grant.specs.Record.{Standing, is_settled}
use Rattle.smi_command.specs.declared.link.Link.{Link}
use Rattle.smi_command.specs.declared.link.Link.TheVariants.{Out, Taking, Held, Dropping}
use Rattle.smi_command.specs.declared.link.Due.{Due}
use Rattle.smi_command.specs.declared.link.Due.TheVariants.{Take, Drop, Run}
use Rattle.smi_command.specs.Hearing.{told_link}
use Rattle.smi_command.specs.KnownGrant.{KnowsOf, KnownGrant, InStep, IsSpent, Waits}
use Rattle.smi_command.specs.Link.{known, due_of}
use Rattle.smi_command.specs.OneLink.{Datagram, Asks, Tells, job, Pair, opening, asked, asked_record, settled_record}
use Rattle.smi_command.specs.OneLink.{relinked, newest_number, commanded, sent_due, delivered, has_number}
use Rattle.smi_command.specs.OneLink.{is_stranger, Event, OrderTake, OrderCommand, OrderDrop, SendDue, Deliver}
use Rattle.smi_command.specs.OneLink.{Settle, Stranger, Ask, after, reached, issued_under, Among}
use Rattle.smi_command.specs.Order.{take_begun, command_issued, drop_begun}
use Rattle.smi_command.proofs.Asked.{Admitted, run_waits, asked_fits, settled_fits, asked_number}
use Rattle.smi_command.proofs.Facts.{place, LinkOk, AskOk, Fits}
use Rattle.smi_command.proofs.Heard.{Quiet, quiet_taking, quiet_dropping, told_goes, told_quiet, not_true, choose}
use Rattle.smi_grant.proofs.Holders.{either, other_is, free_not_held}
use Rattle.smi_command.proofs.KeeperSteps.{one_more, tell_now}
use Rattle.smi_command.proofs.LinkSteps.{Goes, fits_goes}
use Rattle.smi_command.proofs.Logs.{Logged, logged_first, logged_quiet, logged_issue, RunsOk, runs_first}
use Rattle.smi_command.proofs.Logs.{runs_settled, runs_asked, runs_issue}
use Rattle.smi_command.proofs.Orders.{take_begins, drop_begins, command_issues, take_goes, drop_goes, command_goes}
use Rattle.smi_command.proofs.Waiting.{due_waits, due_take, due_drop, waiting_number}

-- everything about the pair
pub record Well (me : Holder) (p : Pair) : Type 0 where
  pub fits : Fits p.kept me p.link p.sent
  pub mine : (h : Holder) (d : Due) → Among (Asks h d) p.sent → h ≡ me
  pub logged : Logged p.link p.issued
  pub runs : RunsOk me p.kept p.issued p.ran

pub well_first : (me : Holder) → is_free me ≡ false → Well me opening
well_first me party = record {
  fits = record {
    lawful = record { epoch = omega arith; last = omega arith; parity = refl; coherent = refl };
    link = (omega arith, λ e. free_not_held me (sym (ap is_free e)) party);
    all_sent = λ m a. absurd a;
  };
  mine = λ h d a. absurd a;
  logged = logged_first;
  runs = runs_first me;
}

-- The link goes on.

linked_well : (me : Holder) (p : Pair) (l : Link) → Goes p.kept me p.link l → Quiet p.link l → Well me p
    → Well me (record p { link = l })
linked_well me p l goes quiet w = record {
  fits = fits_goes p.kept me p.link l p.sent goes w.fits;
  mine = w.mine;
  logged = logged_quiet p.link l p.issued goes.further quiet w.logged;
  runs = w.runs;
}

take_well : (me : Holder) (p : Pair) → Well me p → (x : Result Link ℕ) → take_begun p.link ≡ x → Well me (relinked p x)
take_well me p w (Err refusal) is = w
take_well me p w (Ok m) is =
    let begins = take_begins p.link m is in
    let k = begins.0 in
    let ok : LinkOk p.kept me (Out k) = subst (λ l. LinkOk p.kept me l) begins.1 w.fits.link in
    let goes : Goes p.kept me p.link (Taking k) = subst (λ l. Goes p.kept me l (Taking k)) (sym begins.1)
    (take_goes p.kept me k ok) in
    subst (λ l. Well me (record p { link = l })) (sym begins.2)
    (linked_well me p (Taking k) goes (quiet_taking p.link k) w)

drop_well : (me : Holder) (p : Pair) → Well me p → (x : Result Link ℕ) → drop_begun p.link ≡ x → Well me (relinked p x)
drop_well me p w (Err refusal) is = w
drop_well me p w (Ok m) is =
    let begins = drop_begins p.link m is in
    let e = begins.0 in
    let ok : LinkOk p.kept me (Held e begins.1 []) = subst (λ l. LinkOk p.kept me l) begins.2 w.fits.link in
    let goes : Goes p.kept me p.link (Dropping e) = subst (λ l. Goes p.kept me l (Dropping e)) (sym begins.2)
    (drop_goes p.kept me e begins.1 ok) in
    subst (λ l. Well me (record p { link = l })) (sym begins.3)
    (linked_well me p (Dropping e) goes (quiet_dropping p.link e) w)

command_well : (me : Holder) (p : Pair) (c : Command) → Well me p → (x : Result Link ℕ) → command_issued p.link c ≡ x
    → Well me (commanded me p c x)
command_well me p c w (Err refusal) is = w
command_well me p c w (Ok m) is =
    let i = command_issues p.link c m is in
    let e = i.epoch in
    let n = i.number in
    let held = Held e n i.pending in
    let new = Held e (n + 1) (i.pending ++ c ∷ []) in
    let ok : LinkOk p.kept me held = subst (λ l. LinkOk p.kept me l) i.was w.fits.link in
    let goes : Goes p.kept me p.link new = subst (λ l. Goes p.kept me l new) (sym i.was)
    (command_goes p.kept me e n i.pending c i.room i.left ok) in
    let logged : Logged held p.issued = subst (λ l. Logged l p.issued) i.was w.logged in
    let none : issued_under e (n + 1) p.issued ≡ [] = logged.next e n i.pending refl (n + 1) (omega arith) in
    subst (λ l. Well me (record p { link = l; issued = job me (known l) (newest_number l) c ∷ p.issued }))
    (sym i.becomes) (record {
      fits = fits_goes p.kept me p.link new p.sent goes w.fits;
      mine = w.mine;
      logged = logged_issue me e n i.pending c p.issued ok.2.counted logged;
      runs = runs_issue me p.kept e (n + 1) c p.issued p.ran none w.runs;
    })

told_well : (me : Holder) (p : Pair) (q : Standing) → is_free me ≡ false → Among (Tells q) p.sent → Well me p
    → Well me (record p { link = told_link p.link me q })
told_well me p q party a w =
    linked_well me p (told_link p.link me q) (told_goes p.kept me party w.fits.lawful q p.link
    (w.fits.all_sent (Tells q) a) w.fits.link) (told_quiet p.link me q p.kept w.fits.link) w

-- What is due is sent.

pub due_ok : (r : Standing) (h : Holder) (l : Link) (i : ℕ) (d : Due) → LinkOk r h l → due_of l i ≡ Some d → AskOk r l d
due_ok r h l i (Take s) o is =
    let taking = due_take l i s is in
    let ok : LinkOk r h (Taking s) = subst (λ k. LinkOk r h k) taking o in
    record { not_ahead = ok.0; is_open = λ e f b. taking }
due_ok r h l i (Drop e) o is =
    let dropping = due_drop l i e is in
    subst (λ k. e + e + 1 ≤ place k) (sym dropping) (omega arith)
due_ok r h l i (Run e n c) o is =
    let w = due_waits l i e n c is in
    let ok : LinkOk r h (Held e w.newest w.pending) = subst (λ k. LinkOk r h k) w.is o in
    let here : Waits (Held e w.newest w.pending) e n c = subst (λ k. Waits k e n c) w.is w in
    let number = waiting_number e w.newest w.pending e n c ok.2.counted here in
    record {
      within = omega (arith, number.1, ok.3);
      begun = subst (λ k. e ≤ known k) (sym w.is) (omega arith);
      spent = inr w;
    }

send_well : (me : Holder) (p : Pair) (i : ℕ) → Well me p → (x : Option Due) → due_of p.link i ≡ x
    → Well me (sent_due me p x)
send_well me p i w None is = w
send_well me p i w (Some d) is = record {
  fits = one_more p.kept me p.link p.sent (Asks me d) w.fits (λ same. due_ok p.kept me p.link i d w.fits.link is);
  mine = λ h d' a. elim a [ inl same ↦ cc | inr old ↦ w.mine h d' old ];
  logged = w.logged;
  runs = w.runs;
}

-- The keeper is asked.

asked_well : (me : Holder) (p : Pair) (g : Holder) (d : Due) (busy : Bool) (x : ℕ) → is_free me ≡ false
    → is_free g ≡ false → has_number d ≡ true → (g ≡ me → AskOk p.kept p.link d) → Well me p
    → Well me (asked p g d busy x)
asked_well me p g d busy x party held number mine w =
    let after' = asked_record p.kept g d busy x in
    let fits : Fits after' me p.link p.sent = asked_fits p.kept me p.link p.sent party w.fits g d busy x held number
    mine in
    record {
      fits = one_more after' me p.link p.sent (Tells after') fits (tell_now after' me p.link fits.lawful);
      mine = λ h d' a. elim a [ inl same ↦ absurd cc | inr old ↦ w.mine h d' old ];
      logged = w.logged;
      runs = runs_asked me p.kept g d busy x p.issued p.ran one w.runs;
    }
  where
    one : (e n : ℕ) (c : Command) → d ≡ Run e n c → Admitted p.kept g e n → g ≡ me → issued_under e n p.issued ≡ c ∷ []
    one e n c is a same =
        let asked_run : g ≡ me → AskOk p.kept p.link (Run e n c) = λ i. subst (λ k. AskOk p.kept p.link k) is
        (mine i) in
        let waits : Waits p.link p.kept.epoch (p.kept.last + 1) c = run_waits p.kept me p.link p.sent party w.fits g
        e n c asked_run a (a.holder ∙ same) in
        ap (λ f. issued_under f n p.issued) (sym a.epoch) ∙ ap (λ m. issued_under p.kept.epoch m p.issued) a.next
        ∙ w.logged.now p.kept.epoch (p.kept.last + 1) c waits

at_among : {X : Type 0} (xs : List X) (i : ℕ) (x : X) → slice_get xs i ≡ Some x → Among x xs
at_among [] i x is = absurd cc
at_among (y ∷ ys) zero x is = inl cc
at_among (y ∷ ys) (suc i) x is = inr (at_among ys i x is)

deliver_well : (me : Holder) (p : Pair) (busy : Bool) (x : ℕ) → is_free me ≡ false → Well me p
    → (m : Option Datagram) → ((k : Datagram) → m ≡ Some k → Among k p.sent) → Well me (delivered me p m busy x)
deliver_well me p busy x party w None among = w
deliver_well me p busy x party w (Some (Tells q)) among = told_well me p q party (among (Tells q) refl) w
deliver_well me p busy x party w (Some (Asks h d)) among =
    let a = among (Asks h d) refl in
    let same = w.mine h d a in
    let ok : AskOk p.kept p.link d = w.fits.all_sent (Asks h d) a same in
    asked_well me p h d busy x party (ap is_free same ∙ party) (asked_number p.kept p.link d ok) (λ i. ok) w

settle_well : (me : Holder) (p : Pair) (x : ℕ) → is_free me ≡ false → Well me p
    → Well me (record p { kept = settled_record p.kept x })
settle_well me p x party w = record {
  fits = settled_fits p.kept me p.link p.sent party w.fits x;
  mine = w.mine;
  logged = w.logged;
  runs = elim (either (is_settled p.kept.phase))
      [ inl t ↦ rw t w.runs | inr n ↦ rw n (runs_settled me p.kept x p.issued p.ran w.runs) ];
}

stranger_well : (me : Holder) (p : Pair) (h : Holder) (d : Due) (busy : Bool) (x : ℕ) → is_free me ≡ false
    → Well me p → Well me (if is_stranger me h d then asked p h d busy x else p)
stranger_well me p h d busy x party w = choose (λ z. Well me z) (is_stranger me h d) (asked p h d busy x) p
    (λ t.
    let a = and_parts (not (is_free h)) _ t in
    let b = and_parts (not (same_holder h me)) _ a.1 in
    asked_well me p h d busy x party (not_true _ a.0) b.1 (λ i. absurd (other_is h me (not_true _ b.0) i)) w)
    (λ n. w)

pub after_well : (me : Holder) (p : Pair) (e : Event) → is_free me ≡ false → Well me p → Well me (after me p e)
after_well me p OrderTake party w = take_well me p w (take_begun p.link) refl
after_well me p (OrderCommand c) party w = command_well me p c w (command_issued p.link c) refl
after_well me p OrderDrop party w = drop_well me p w (drop_begun p.link) refl
after_well me p (SendDue i) party w = send_well me p i w (due_of p.link i) refl
after_well me p (Deliver i busy x) party w =
    deliver_well me p busy x party w (slice_get p.sent i) (λ k is. at_among p.sent i k is)
after_well me p (Settle x) party w = settle_well me p x party w
after_well me p (Stranger h d busy x) party w = stranger_well me p h d busy x party w
after_well me p Ask party w = record {
  fits = one_more p.kept me p.link p.sent (Tells p.kept) w.fits (tell_now p.kept me p.link w.fits.lawful);
  mine = λ h d' a. elim a [ inl same ↦ absurd cc | inr old ↦ w.mine h d' old ];
  logged = w.logged;
  runs = w.runs;
}

pub reached_well : (me : Holder) (events : List Event) → is_free me ≡ false → Well me (reached me events)
reached_well me [] party = well_first me party
reached_well me (e ∷ earlier) party = after_well me (reached me earlier) e party (reached_well me earlier party)

-- What the facts on a link say to those who rely on them.

pub grant_known : (r : Standing) (h : Holder) (l : Link) → LinkOk r h l → KnownGrant r h l
grant_known r h l o = record {
  is_known = λ mine. knows l o mine;
  is_held = λ e n p is. let ok : LinkOk r h (Held e n p) = subst (λ k. LinkOk r h k) is o in (ok.0, ok.1);
}
  where
    knows : (k : Link) → LinkOk r h k → r.holder ≡ h → KnowsOf k r.epoch
    knows (Out k) o' mine = o'.1 mine
    knows (Taking s) o' mine = sym (o'.1 mine).0
    knows (Held e n p) o' mine = sym o'.0
    knows (Dropping e) o' mine = sym (o'.1 mine).0

pub grant_in_step : (r : Standing) (h : Holder) (l : Link) (e n : ℕ) (p : List Command) → LinkOk r h l
    → l ≡ Held e n p → InStep r n p
grant_in_step r h l e n p o is = let ok : LinkOk r h (Held e n p) = subst (λ k. LinkOk r h k) is o in ok.2

pub run_sent : (r : Standing) (h : Holder) (l : Link) (sent : List Datagram) (e n : ℕ) (c : Command)
    → Fits r h l sent → Among (Asks h (Run e n c)) sent → IsSpent r e n ⊎ Waits l e n c
run_sent r h l sent e n c f a = (f.all_sent (Asks h (Run e n c)) a refl).spent
