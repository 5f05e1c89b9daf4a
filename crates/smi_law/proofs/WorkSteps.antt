-- Whatever reaches a station, its domains relate to the trace as they should.
use Rattle.std.proofs.Common.{ℕ, zero, suc, ◌≡◌, ◌+◌, Bool, true, false, List, [], ◌∷◌, inl, inr, refl, sym, ap, ◌∙◌}
use Rattle.std.proofs.Common.{subst, arith}
use Rattle.std.specs.Prelude.{◌==◌, ◌&&◌, ◌++◌, nat_lt, Option, Some, None, Result, Ok, Err, slice_get, if◌then◌else◌}
use Rattle.std.proofs.lemmas.Bool.{and_parts, eqb-true}
use Rattle.std.proofs.lemmas.Bool.Decides.{nat_tests}
use Rattle.smi_grant.specs.declared.Command.{Command}
use Rattle.smi_grant.specs.declared.Command.TheVariants.{Do, Include, Exclude, Manual, Ignore}
use Rattle.smi_grant.specs.declared.Holder.{Holder}
use Rattle.smi_grant.specs.declared.Holder.TheVariants.{Free, Operator, Domain}
use Rattle.smi_grant.specs.declared.Phase.{Phase}
use Rattle.smi_grant.specs.declared.Phase.TheVariants as phase
use Rattle.smi_grant.specs.declared.Verdict.{Verdict}
use Rattle.smi_grant.specs.declared.Verdict.TheVariants.{New, Same}
use Rattle.smi_grant.specs.Holder.{is_free, same_holder}
use Rattle.smi_grant.specs.Keeper.{handed, take_after, drop_after, admits, started}
use Rattle.smi_grant.specs.Record.{Standing, IsRecord, is_settled, last_epoch}
use Rattle.smi_message.specs.declared.Body.{Body}
use Rattle.smi_message.specs.declared.Body.TheVariants as body
use Rattle.smi_message.specs.Message.{Message}
use Rattle.smi_tree.specs.Hierarchy.{Hierarchy}
use Rattle.smi_tree.specs.Lookups.{parent_of}
use Rattle.smi_command.specs.declared.Due.TheVariants as due
use Rattle.smi_command.specs.declared.Link.{Link}
use Rattle.smi_command.specs.declared.Link.TheVariants.{Out, Taking, Held, Dropping}
use Rattle.smi_command.specs.Hearing.{told_link}
use Rattle.smi_command.specs.KnownGrant.{Waits}
use Rattle.smi_command.specs.Order.{take_begun, drop_begun, command_issued}
use Rattle.smi_command.proofs.Asked.{admitted}
use Rattle.smi_command.proofs.Facts.{LinkOk}
use Rattle.smi_grant.proofs.Holders.{either, same_is}
use Rattle.smi_command.proofs.Orders.{command_issues}
use Rattle.smi_tree.specs.Roles.{is_number, is_parent, is_keeper}
use Rattle.smi_command.specs.Link.{is_unsettled}
use Rattle.smi_protocol.specs.Children.{links_after, modes_after, own_code}
use Rattle.smi_protocol.specs.Grants.{Grants, put, with_record, with_link}
use Rattle.smi_protocol.specs.GrantStep.{waits_for_children}
use Rattle.smi_protocol.specs.GrantsOf.{datagram_comes, grant_step}
use Rattle.smi_protocol.specs.Happening.{Happening, Comes, Orders, Reports, Ticks}
use Rattle.smi_protocol.specs.Hearing.{listeners, listener, learned, parent_heard, ends, ended, ended_entries}
use Rattle.smi_protocol.specs.Hearing.{told_to}
use Rattle.smi_protocol.specs.Keeping.{decided, commanded, begun, child_entries, settled_at_once, run_comes}
use Rattle.smi_protocol.specs.Messages.{home}
use Rattle.smi_protocol.specs.Ordering.{order_entries, obeyed, order_comes}
use Rattle.smi_protocol.specs.Refusals.{is_body_of, refusal_of}
use Rattle.smi_protocol.specs.declared.Entry.{Entry}
use Rattle.smi_protocol.specs.declared.Entry.TheVariants.{Granted, Freed, Ran}
use Rattle.smi_protocol.specs.declared.Order.{Order}
use Rattle.smi_protocol.specs.declared.Order.TheVariants as order
use Rattle.smi_law.specs.Known.{holder_home, record_in, link_in}
use Rattle.smi_protocol.specs.Schedule.{World}
use Rattle.smi_law.specs.Trace.{orders_of}
use Rattle.smi_law.specs.World.{Among as IsSent, MayCome, noted}
use Rattle.smi_law.proofs.GrantKinds.{put_here}
use Rattle.smi_law.proofs.HearingKinds.{IsHere, all_found, listeners_here, within_epochs}
use Rattle.smi_law.proofs.KnownFacts.{known_sent, known_in_step}
use Rattle.smi_law.proofs.Moves.{apart, at_put, at_put_link, put_link_here}
use Rattle.smi_law.proofs.OrdersLogged.{AllLogged}
use Rattle.smi_law.proofs.OrderSteps.{orders_issued}
use Rattle.smi_law.proofs.Started.{at_started}
use Rattle.smi_law.proofs.StepKinds.{take_new, drop_new, understood, order_here}
use Rattle.smi_law.proofs.Traces.{Safely}
use Rattle.smi_law.proofs.Viewed.{Viewed, keeper_home, view_fits}
use Rattle.smi_law.proofs.Views.{Fair, fair_request}
use Rattle.smi_law.proofs.Working.{At, AllAside, aside_both, all_aside, SameAt, same_at, moved_at, settles_at}
use Rattle.smi_law.proofs.Working.{renewed}
use Rattle.smi_law.proofs.WorkRuns.{child_aside}
use Rattle.smi_law.proofs.WorkTold.{at_told, learned_aside, told_aside, told_same}
use Rattle.smi_law.proofs.Parents.{held_by_parent}

-- every domain relates to the trace as it should
pub record Working (h : Hierarchy) (past : List Entry) (w : World) : Type 0 where
  pub now : ℕ → Command
  pub at : (p : ℕ) → At h now past (w.stations (home h p)).grants p

-- Records and links.

-- something is pending on the link
pub record Pending (l : Link) (e : ℕ) : Type 0 where
  pub number : ℕ
  pub command : Command
  pub more : List Command
  pub is : l ≡ Held e number (command ∷ more)

settled_is : (p : Phase) → is_settled p ≡ false → p ≡ phase.Settled → ⊥
settled_is p busy is = let i : true ≡ false = ap is_settled (sym is) ∙ busy in cc

if_true : (a b c : Bool) → a ≡ true → (if a then b else c) ≡ true → b ≡ true
if_true true b c i j = j
if_true false b c i j = absurd cc

-- if nothing has run, and if nobody holds it, a domain is settled
fresh_settled : (r : Standing) → IsRecord r → (r.last == 0) ≡ true → is_settled r.phase ≡ true
fresh_settled r lawful none =
    let a = and_parts (if is_free r.holder then r.last == 0 else true) _ lawful.coherent in
    let b = and_parts (if r.last == 0 then is_settled r.phase && r.outcome == 0 else true) _ a.1 in
    (and_parts (is_settled r.phase) _ (if_true (r.last == 0) (is_settled r.phase && r.outcome == 0) true none b.0)).0

pub free_settled : (r : Standing) → IsRecord r → is_free r.holder ≡ true → is_settled r.phase ≡ true
free_settled r lawful free =
    let a = and_parts (if is_free r.holder then r.last == 0 else true) _ lawful.coherent in
    fresh_settled r lawful (if_true (is_free r.holder) (r.last == 0) true free a.0)

zero_is : (n : ℕ) → n ≡ 0 → (n == 0) ≡ true
zero_is n is = grind (arith, nat_tests)

-- the running command of a busy domain is pending on its holder's link
pub busy_pending : (r : Standing) (me : Holder) (l : Link) → IsRecord r → LinkOk r me l → r.holder ≡ me
    → is_settled r.phase ≡ false → Pending l r.epoch
busy_pending r me (Out k) lawful o mine busy = absurd (o.1 mine)
busy_pending r me (Taking s) lawful o mine busy =
    let i : true ≡ false = sym (fresh_settled r lawful (zero_is r.last (o.1 mine).1)) ∙ busy in absurd cc
busy_pending r me (Held e n []) lawful o mine busy =
    absurd (settled_is r.phase busy (o.2.all_settled (omega (arith, o.2.not_before, o.2.not_beyond))))
busy_pending r me (Held e n (c ∷ more)) lawful o mine busy =
    record { number = n; command = c; more = more; is = ap (λ z. Held z n (c ∷ more)) (sym o.0) }
busy_pending r me (Dropping e) lawful o mine busy = absurd (settled_is r.phase busy (o.1 mine).1)

-- what waits on a link is pending there
pub waiting_pending : (l : Link) (e n : ℕ) (c : Command) → Waits l e n c → Pending l e
waiting_pending l e n c w = by w.pending w.is w.at w.command
  where
    by : (pending : List Command) → l ≡ Held e w.newest pending → (i : ℕ) → slice_get pending i ≡ Some c → Pending l e
    by [] is i at = absurd (nothing i at)
      where
        nothing : (i : ℕ) → slice_get [] i ≡ Some c → ⊥
        nothing i at = cc
    by (k ∷ more) is i at = record { number = w.newest; command = k; more = more; is = is }

-- where one command is pending, it is the one that waits
pub waiting_one : (l : Link) (e n m : ℕ) (c k : Command) → Waits l e n c → l ≡ Held e m (k ∷ []) → c ≡ k
waiting_one l e n m c k w is =
    let a : Held e w.newest w.pending ≡ Held e m (k ∷ []) = sym w.is ∙ is in
    let b : w.pending ≡ k ∷ [] = cc in
    one w.at (ap (λ z. slice_get z w.at) (sym b) ∙ w.command)
  where
    one : (i : ℕ) → slice_get (k ∷ []) i ≡ Some c → c ≡ k
    one zero at = cc
    one (suc i) at = absurd (nothing i at)
      where
        nothing : (i : ℕ) → slice_get [] i ≡ Some c → ⊥
        nothing i at = cc

take_free : (r : Standing) (who : Holder) (s : ℕ) (q : Standing) → take_after r who s ≡ New q → is_free r.holder ≡ true
take_free r who s q is = elim (either (is_free r.holder && (r.epoch == s && nat_lt s last_epoch))) [
  | inl t ↦ (and_parts (is_free r.holder) _ t).0
  | inr f ↦ let a : Same ≡ New q = sym (ap (λ b. if b then New (handed r who) else Same) f) ∙ is in absurd cc
]

drop_settled : (r : Standing) (who : Holder) (e : ℕ) (q : Standing) → drop_after r who e ≡ New q
    → is_settled r.phase ≡ true
drop_settled r who e q is = elim (either (same_holder r.holder who && (r.epoch == e && is_settled r.phase))) [
  | inl t ↦
      let a = and_parts (same_holder r.holder who) _ t in
      (and_parts (r.epoch == e) _ a.1).1
  | inr f ↦ let a : Same ≡ New q = sym (ap (λ b. if b then New (handed r Free) else Same) f) ∙ is in absurd cc
]

-- One station.

module _ (h : Hierarchy) (w : World) (number : ℕ) (past : List Entry) (v : Viewed h w) (s : Safely h past w)
    (l : AllLogged h past w) (working : Working h past w) where
  abbrev G : Grants
  G = (w.stations number).grants

  -- the state of the domains after a step of this station
  pub record Local (K : Grants) (new : List Entry) : Type 0 where
    pub next : ℕ → Command
    pub here : (p : ℕ) → home h p ≡ number → At h next (noted new past) K p
    pub there : (p : ℕ) → (home h p ≡ number → ⊥) → At h next (noted new past) (w.stations (home h p)).grants p

  at_home : (now : ℕ → Command) (trace : List Entry) (p : ℕ) → home h p ≡ number
      → At h now trace (w.stations (home h p)).grants p → At h now trace G p
  at_home now trace p e a = subst (λ z. At h now trace (w.stations z).grants p) e a

  record_home : (p : ℕ) → home h p ≡ number → G.records p ≡ record_in h w p
  record_home p e = ap (λ z. (w.stations z).grants.records p) (sym e)

  link_home : (me : Holder) (d : ℕ) → holder_home h me ≡ number → link_in h w me d ≡ G.links me d
  link_home me d e = ap (λ z. (w.stations z).grants.links me d) e

  behind : (p : ℕ) (new : List Entry) → AllAside h p (record_in h w p) new
      → At h working.now (noted new past) (w.stations (home h p)).grants p
  behind p new aside = all_aside h working.now new past (w.stations (home h p)).grants p aside (working.at p)

  -- nothing happens that matters
  idle : (K : Grants) (new : List Entry) → ((p : ℕ) → SameAt h G K p)
      → ((p : ℕ) → AllAside h p (record_in h w p) new) → Local K new
  idle K new same aside = record {
    next = working.now;
    here = λ p e. moved_at h working.now (noted new past) G K p (same p)
        (at_home working.now (noted new past) p e (behind p new (aside p)));
    there = λ p o. behind p new (aside p);
  }

  pub unchanged : Local G []
  unchanged = idle G [] (λ p. same_at h G p) (λ p. tt)

  -- A domain changes hands.

  hands : (x : ℕ) (r : Standing) (note : Entry) → ((p : ℕ) → AllAside h p (record_in h w p) (note ∷ []))
      → is_settled (G.records x).phase ≡ true → is_settled r.phase ≡ true → Local (with_record G x r) (note ∷ [])
  hands x r note aside was is = record {
    next = working.now;
    here = λ p e. here p (at_home working.now (note ∷ past) p e (behind p (note ∷ []) (aside p)));
    there = λ p o. behind p (note ∷ []) (aside p);
  }
    where
      here : (p : ℕ) → At h working.now (note ∷ past) G p → At h working.now (note ∷ past) (with_record G x r) p
      here p a = elim (apart p x) [
        | inl same ↦ settles_at h working.now (note ∷ past) G (with_record G x r) p refl refl
            (ap (λ z. is_settled (put G.records x r z).phase) same
            ∙ ap (λ (z : Standing). is_settled z.phase) (put_here G.records x r) ∙ is)
            (a.rest (ap (λ z. is_settled (G.records z).phase) same ∙ was)) a
        | inr o ↦ moved_at h working.now (note ∷ past) G (with_record G x r) p (record {
          record_ = at_put (λ z. z ≡ G.records p) G.records x r p (λ i. absurd (o i)) refl;
          links = λ y. refl;
          modes = λ y child. refl;
        }) a
      ]

  lawful : (x : ℕ) → home h x ≡ number → IsRecord (G.records x)
  lawful x e = subst IsRecord (sym (record_home x e)) (view_fits h w x (Operator 1) refl (v.each x (Operator 1))).lawful

  take_local : (from x : ℕ) (who : Holder) (seen : ℕ) → home h x ≡ number → (verdict : Verdict)
      → take_after (G.records x) who seen ≡ verdict
      → Local (decided h number G from x (Granted x ((G.records x).epoch + 1) who) verdict).grants
      (decided h number G from x (Granted x ((G.records x).epoch + 1) who) verdict).entries
  take_local from x who seen e (New r) is =
      hands x r (Granted x ((G.records x).epoch + 1) who) (λ p. (tt, tt))
      (free_settled (G.records x) (lawful x e) (take_free (G.records x) who seen r is))
      (ap (λ (z : Standing). is_settled z.phase) (take_new (G.records x) who seen r is))
  take_local from x who seen e Same is = unchanged

  drop_local : (from x : ℕ) (who : Holder) (f : ℕ) → (verdict : Verdict) → drop_after (G.records x) who f ≡ verdict
      → Local (decided h number G from x (Freed x ((G.records x).epoch + 1)) verdict).grants
      (decided h number G from x (Freed x ((G.records x).epoch + 1)) verdict).entries
  drop_local from x who f (New r) is =
      hands x r (Freed x ((G.records x).epoch + 1)) (λ p. (tt, tt)) (drop_settled (G.records x) who f r is)
      (ap (λ (z : Standing). is_settled z.phase) (drop_new (G.records x) who f r is).is)
  drop_local from x who f Same is = unchanged

  -- A command runs.

  module _ (x : ℕ) (who : Holder) (e n : ℕ) (c : Command) (at_home_ : home h x ≡ number)
      (party : is_free who ≡ false) (admits_ : admits (G.records x) who e n ≡ true) (m : Message)
      (sent : IsSent m w.sent) (says : m.body ≡ body.Run x who e n c) where
    holder : (record_in h w x).holder ≡ who
    holder = ap (λ (r : Standing). r.holder) (sym (record_home x at_home_))
        ∙ (admitted (G.records x) who e n admits_).holder

    epoch : (record_in h w x).epoch ≡ e
    epoch = ap (λ (r : Standing). r.epoch) (sym (record_home x at_home_))
        ∙ (admitted (G.records x) who e n admits_).epoch

    next : n ≡ (record_in h w x).last + 1
    next = (admitted (G.records x) who e n admits_).next ∙ ap (λ (r : Standing). r.last + 1) (record_home x at_home_)

    settled : is_settled (G.records x).phase ≡ true
    settled = ap is_settled (admitted (G.records x) who e n admits_).phase

    -- it is pending on the holder's link
    waits : Waits (link_in h w who x) e n c
    waits = elim (known_sent h w x who m e n c party v sent says) [
      | inl spent ↦
          absurd (elim spent [
            | inl over ↦ let i = epoch in omega (arith, over, i)
            | inr ran_ ↦ let a = ran_.1 in
                let i = next in omega (arith, a, i)
          ])
      | inr it ↦ it
    ]

    ordered : (o : ℕ) → (G.records x).holder ≡ Operator o → orders_of o x e n past ≡ c ∷ []
    ordered o mine =
        let is : who ≡ Operator o = sym (admitted (G.records x) who e n admits_).holder ∙ mine in
        orders_issued o x e n past ∙ (l o x).now e n c (subst (λ z. Waits (link_in h w z x) e n c) is waits)

    same : (q : ℕ) → (G.records x).holder ≡ Domain q → c ≡ working.now q
    same q mine =
        let is : who ≡ Domain q = sym (admitted (G.records x) who e n admits_).holder ∙ mine in
        let wait : Waits (link_in h w (Domain q) x) e n c = subst (λ z. Waits (link_in h w z x) e n c) is waits in
        let p = waiting_pending (link_in h w (Domain q) x) e n c wait in
        let on = (working.at q).handed x e p.number p.command p.more (held_by_parent h past w s x q (holder ∙ is))
        p.is in
        waiting_one (link_in h w (Domain q) x) e n p.number c p.command wait
        (p.is ∙ ap (λ z. Held e p.number (p.command ∷ z)) on.alone) ∙ on.command

    abbrev busy : Bool
    busy = waits_for_children h (commanded h G x c) x

    abbrev own : ℕ
    own = own_code h G x c

    abbrev K : Grants
    K = begun (commanded h G x c) x busy own

    abbrev new : List Entry
    new = Ran x e n c ∷ child_entries h G x c ++ settled_at_once x e n busy own

    aside : (p : ℕ) → (p ≡ x → ⊥) → AllAside h p (record_in h w p) new
    aside p o = (
      tt,
      aside_both h p (record_in h w p) (child_entries h G x c) (settled_at_once x e n busy own)
          (child_aside h G x p (record_in h w p) o c) (ends_aside busy),
    )
      where
        ends_aside : (b : Bool) → AllAside h p (record_in h w p) (settled_at_once x e n b own)
        ends_aside true = tt
        ends_aside false = (λ i. o (sym i), tt)

    -- no child of this domain is busy
    none_busy : (p : ℕ) → is_settled (record_in h w p).phase ≡ false → (record_in h w p).holder ≡ Domain x → ⊥
    none_busy p working_ mine =
        let f = view_fits h w p (Domain x) refl (v.each p (Domain x)) in
        let b = busy_pending (record_in h w p) (Domain x) (link_in h w (Domain x) p) f.lawful f.link mine working_ in
        let rest = (working.at x).rest (ap (λ (r : Standing). is_settled r.phase) (sym (record_home x at_home_))
        ∙ settled) p (held_by_parent h past w s p x mine) in
        let i : true ≡ false = ap is_unsettled (sym b.is) ∙ rest in
        cc

    others : (p : ℕ) → (p ≡ x → ⊥) → At h (put working.now x c) (noted new past) (w.stations (home h p)).grants p
    others p o = renewed h working.now (noted new past) (w.stations (home h p)).grants x c p o (none_busy p)
        (behind p new (aside p o))

    same_others : (p : ℕ) → (p ≡ x → ⊥) → SameAt h G K p
    same_others p o = record {
      record_ = at_put (λ z. z ≡ G.records p) G.records x (started (G.records x) busy own) p (λ i. absurd (o i)) refl;
      links = λ y. links y;
      modes = λ y child. modes y child;
    }
      where
        links : (y : ℕ) → links_after h G x c (Domain p) y ≡ G.links (Domain p) y
        links y = elim (either (is_parent h y x && same_holder (Domain p) (Domain x))) [
          | inl t ↦
              let a : Domain p ≡ Domain x = same_is (Domain p) (Domain x) (and_parts (is_parent h y x) _ t).1 in
              let b : p ≡ x = cc in
              absurd (o b)
          | inr f ↦ rw f refl
        ]

        modes : (y : ℕ) → parent_of h y ≡ Some p → modes_after h G x c y ≡ G.modes y
        modes y child = elim (either (is_parent h y x)) [
          | inl t ↦
              let b : p ≡ x = eqb-true p x (sym (ap (λ z. is_number z x) child) ∙ t) in
              absurd (o b)
          | inr f ↦ rw f refl
        ]

    runs : Local K new
    runs = record {
      next = put working.now x c;
      here = λ p i. elim (apart p x) [
        | inl it ↦ subst (At h (put working.now x c) (noted new past) K) (sym it)
            (at_started h working.now past G x e n c own (at_home working.now past x at_home_ (working.at x)) settled
            (admitted (G.records x) who e n admits_).epoch (admitted (G.records x) who e n admits_).next ordered same
            busy refl)
        | inr o ↦ moved_at h (put working.now x c) (noted new past) G K p (same_others p o)
            (at_home (put working.now x c) (noted new past) p i (others p o))
      ];
      there = λ p i. others p (λ it. i (ap (home h) it ∙ at_home_));
    }

  run_local : (from x : ℕ) (who : Holder) (e n : ℕ) (c : Command) → home h x ≡ number → is_free who ≡ false
      → (m : Message) → IsSent m w.sent → m.body ≡ body.Run x who e n c
      → Local (run_comes h number G from x who e n c).grants (run_comes h number G from x who e n c).entries
  run_local from x who e n c e' party m sent says = elim (either (admits (G.records x) who e n)) [
    | inl t ↦ rw t (runs x who e n c e' party t m sent says)
    | inr f ↦ rw f unchanged
  ]

  -- A record is told.

  operators_aside : (o x : ℕ) (new : Link) (p : ℕ) → SameAt h G (with_link G (Operator o) x new) p
  operators_aside o x new p = record {
    record_ = refl;
    links = λ y. at_put_link (λ z. z ≡ G.links (Domain p) y) G.links (Operator o) x new (Domain p) y
        (λ i j. absurd cc) refl;
    modes = λ y child. refl;
  }

  module _ (p d : ℕ) (r : Standing) (e : home h p ≡ number) where
    abbrev on : Grants
    on = parent_heard G p d r

    abbrev old : Link
    old = G.links (Domain p) d

    abbrev told : Link
    told = told_link old (Domain p) r

    abbrev ends_ : Bool
    ends_ = ends h on p

    heard : Local (ended ends_ on p) (learned (Domain p) d old told ++ ended_entries ends_ on p)
    heard = record {
      next = working.now;
      here = λ q i. elim (apart q p) [
        | inl it ↦ subst (At h working.now (noted (learned (Domain p) d old told ++ ended_entries ends_ on p) past)
            (ended ends_ on p)) (sym it)
            (at_told h working.now past G p d r (within_epochs h w number (Domain p) d refl e v)
            (at_home working.now past p e (working.at p)))
        | inr o ↦ moved_at h working.now (noted (learned (Domain p) d old told ++ ended_entries ends_ on p) past) G
            (ended ends_ on p) q (told_same h G p d r ends_ q o)
            (at_home working.now (noted (learned (Domain p) d old told ++ ended_entries ends_ on p) past) q i
            (behind q (learned (Domain p) d old told ++ ended_entries ends_ on p)
            (told_aside h q (record_in h w q) p d old told ends_ on o)))
      ];
      there = λ q i. behind q (learned (Domain p) d old told ++ ended_entries ends_ on p)
          (told_aside h q (record_in h w q) p d old told ends_ on (λ it. i (ap (home h) it ∙ e)));
    }

  tell_local : (d : ℕ) (r : Standing) (o : Option Holder) → ((who : Holder) → o ≡ Some who → IsHere h number who)
      → Local (told_to h number G d r o).grants (told_to h number G d r o).entries
  tell_local d r None here = unchanged
  tell_local d r (Some Free) here = unchanged
  tell_local d r (Some (Operator o)) here =
      idle (told_to h number G d r (Some (Operator o))).grants (told_to h number G d r (Some (Operator o))).entries
      (operators_aside o d (told_link (G.links (Operator o) d) (Operator o) r))
      (λ p. learned_aside h p (record_in h w p) (Operator o) d (G.links (Operator o) d)
      (told_link (G.links (Operator o) d) (Operator o) r) (λ i. absurd cc))
  tell_local d r (Some (Domain p)) here =
      subst (λ z. Local (ended (ends h (parent_heard G p d r) p) (parent_heard G p d r) p)
      (learned (Domain p) d (G.links (Domain p) d) z
      ++ ended_entries (ends h (parent_heard G p d r) p) (parent_heard G p d r) p))
      (sym (put_link_here G.links (Domain p) d (told_link (G.links (Domain p) d) (Domain p) r)))
      (heard p d r (here (Domain p) refl).home)

  -- Orders.

  order_aside : (o x : ℕ) (c : Option Command) (new : Link)
      → ((k : Command) → c ≡ Some k → command_issued (G.links (Operator o) x) k ≡ Ok new)
      → holder_home h (Operator o) ≡ number → (p : ℕ) → AllAside h p (record_in h w p) (order_entries o x c new)
  order_aside o x None (Out k) issues here p = tt
  order_aside o x None (Taking u) issues here p = tt
  order_aside o x None (Held e n q) issues here p = tt
  order_aside o x None (Dropping e) issues here p = (tt, tt)
  order_aside o x (Some c) (Out k) issues here p = tt
  order_aside o x (Some c) (Taking u) issues here p = tt
  order_aside o x (Some c) (Dropping e) issues here p = tt
  order_aside o x (Some c) (Held e n q) issues here p = (beyond, tt)
    where
      beyond : x ≡ p → e ≡ (record_in h w p).epoch → n ≡ (record_in h w p).last → ⊥
      beyond it same last =
          let b = command_issues (G.links (Operator o) x) c (Held e n q) (issues c refl) in
          let a : Held e n q ≡ Held b.epoch (b.number + 1) (b.pending ++ c ∷ []) = b.becomes in
          let i : n ≡ b.number + 1 = cc in
          let step = (known_in_step h w x (Operator o) b.epoch b.number b.pending refl v
          (link_home (Operator o) x here ∙ b.was)).not_beyond in
          let j : (record_in h w x).last ≡ (record_in h w p).last = ap (λ z. (record_in h w z).last) it in
          omega (arith, i, step, j, last)

  obeyed_local : (o x : ℕ) (c : Option Command) (res : Result Link ℕ)
      → ((k : Command) → c ≡ Some k → command_issued (G.links (Operator o) x) k ≡ res)
      → holder_home h (Operator o) ≡ number → Local (obeyed h number G o x c res).grants
      (obeyed h number G o x c res).entries
  obeyed_local o x c (Ok new) issues here = idle (with_link G (Operator o) x new) (order_entries o x c new)
      (operators_aside o x new) (order_aside o x c new issues here)
  obeyed_local o x c (Err code) issues here = unchanged

  issues_ : (o x : ℕ) (c : Command) → holder_home h (Operator o) ≡ number
      → Local (obeyed h number G o x (Some c) (command_issued (G.links (Operator o) x) c)).grants
      (obeyed h number G o x (Some c) (command_issued (G.links (Operator o) x) c)).entries
  issues_ o x c here = obeyed_local o x (Some c) (command_issued (G.links (Operator o) x) c)
      (λ k i. let same : c ≡ k = cc in ap (command_issued (G.links (Operator o) x)) (sym same)) here

  order_local : (o : ℕ) (what : Order) → holder_home h (Operator o) ≡ number
      → Local (order_comes h number G o what).grants (order_comes h number G o what).entries
  order_local o (order.Take x) here = obeyed_local o x None (take_begun (G.links (Operator o) x)) (λ k i. absurd cc)
      here
  order_local o (order.Drop x) here = obeyed_local o x None (drop_begun (G.links (Operator o) x)) (λ k i. absurd cc)
      here
  order_local o (order.Do x a) here = issues_ o x (Do a) here
  order_local o (order.Include x t) here = issues_ o x (Include t) here
  order_local o (order.Exclude x t) here = issues_ o x (Exclude t) here
  order_local o (order.Manual x t) here = issues_ o x (Manual t) here
  order_local o (order.Ignore x t) here = issues_ o x (Ignore t) here
  order_local o (order.Ask x) here = unchanged
  order_local o (order.Watch x) here = unchanged
  order_local o (order.Unwatch x) here = unchanged
  order_local o (order.Report device u) here = unchanged

  -- Anything that is not refused.

  body_local : (from : ℕ) (m : Message) → IsSent m w.sent → (b : Body) → m.body ≡ b
      → is_body_of h from number b ≡ true → Local (datagram_comes h number G from b).grants
      (datagram_comes h number G from b).entries
  body_local from m sent (body.Ask x) is ok = unchanged
  body_local from m sent (body.Take x who seen) is ok =
      take_local from x who seen (keeper_home _ number (and_parts (is_keeper h number x) _ ok).0)
      (take_after (G.records x) who seen) refl
  body_local from m sent (body.Drop x who e) is ok = drop_local from x who e (drop_after (G.records x) who e) refl
  body_local from m sent (body.Run x who e n c) is ok =
      run_local from x who e n c (keeper_home _ number (and_parts (is_keeper h number x) _ ok).0)
      (fair_request x who (due.Run e n c) (subst Fair is (v.range m sent))).held m sent is
  body_local from m sent (body.Tell x r) is ok =
      tell_local x r (listener h number G x r) (λ who i. all_found (IsHere h number) _ (listeners h number x) who
      (listeners_here h number x) i)
  body_local from m sent (body.Watch x echo) is ok = unchanged
  body_local from m sent (body.State x echo q u) is ok = unchanged
  body_local from m sent (body.Unwatch x echo) is ok = unchanged

  pub step_local : (what : Happening) → MayCome w what → refusal_of h number G what ≡ None
      → Local (grant_step h number G what).grants (grant_step h number G what).entries
  step_local (Comes m) may none = body_local m.from m may m.body refl (understood h number m none)
  step_local (Orders o what) may none = order_local o what (order_here h number G o what none)
  step_local (Reports device u) may none = unchanged
  step_local Ticks may none = unchanged
