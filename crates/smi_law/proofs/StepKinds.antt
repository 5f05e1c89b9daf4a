-- Whatever reaches a station makes one of the kinds of change to its grants.
use Rattle.std.proofs.Common.{ℕ, ◌≡◌, ◌+◌, Bool, true, false, List, [], ◌∷◌, inl, inr, refl, sym, ap, ◌∙◌, subst}
use Rattle.std.specs.Prelude.{◌==◌, ◌&&◌, ◌++◌, nat_lt, not, Option, Some, None, Result, Ok, Err, if◌then◌else◌}
use Rattle.std.proofs.lemmas.Bool.{and_parts, eqb-true}
use Rattle.smi_grant.specs.declared.Command.{Command}
use Rattle.smi_grant.specs.declared.Command.TheVariants.{Do, Include, Exclude, Manual, Ignore}
use Rattle.smi_grant.specs.declared.Holder.{Holder}
use Rattle.smi_grant.specs.declared.Holder.TheVariants.{Free, Operator, Domain}
use Rattle.smi_grant.specs.declared.Verdict.{Verdict}
use Rattle.smi_grant.specs.declared.Verdict.TheVariants.{New, Same}
use Rattle.smi_grant.specs.Holder.{is_free, same_holder}
use Rattle.smi_grant.specs.Keeper.{handed, take_after, drop_after, admits, started}
use Rattle.smi_grant.specs.Record.{Standing, is_settled, last_epoch}
use Rattle.smi_message.specs.declared.Body.{Body}
use Rattle.smi_message.specs.declared.Body.TheVariants as body
use Rattle.smi_message.specs.Message.{Message}
use Rattle.smi_base.specs.Between.{is_between}
use Rattle.smi_tree.specs.Hierarchy.{Hierarchy}
use Rattle.smi_tree.specs.Lookups.{station_count, operator_station_of, parent_of}
use Rattle.smi_command.specs.declared.Link.{Link}
use Rattle.smi_command.specs.declared.Due.TheVariants.{Take}
use Rattle.smi_command.specs.Order.{take_begun, drop_begun, command_issued}
use Rattle.smi_grant.proofs.Holders.{either, same_is}
use Rattle.smi_command.proofs.Orders.{take_begins, drop_begins, command_issues}
use Rattle.smi_tree.specs.Roles.{is_number, is_holder_of, holder_station, is_keeper}
use Rattle.smi_protocol.specs.Grants.{Grants, put, with_link}
use Rattle.smi_protocol.specs.Children.{own_code}
use Rattle.smi_protocol.specs.GrantStep.{waits_for_children}
use Rattle.smi_protocol.specs.GrantsOf.{datagram_comes, grant_step}
use Rattle.smi_protocol.specs.Happening.{Happening, Comes, Orders, Reports, Ticks}
use Rattle.smi_protocol.specs.Keeping.{decided, commanded, child_entries, settled_at_once, ran, run_comes}
use Rattle.smi_protocol.specs.Ordering.{order_entries, obeyed, order_comes}
use Rattle.smi_protocol.specs.Refusals.{is_body_of, refusal_of_message, refusal_by_link, is_order_here}
use Rattle.smi_protocol.specs.Refusals.{refusal_of}
use Rattle.smi_protocol.specs.declared.Entry.TheVariants as entry
use Rattle.smi_protocol.specs.declared.Entry.TheVariants.{Granted, Ran, LetGo}
use Rattle.smi_protocol.specs.declared.Order.{Order}
use Rattle.smi_protocol.specs.declared.Order.TheVariants as order
use Rattle.smi_law.specs.Known.{holder_home}
use Rattle.smi_law.specs.Safe.{MayHold}
use Rattle.smi_protocol.specs.Schedule.{World}
use Rattle.smi_law.specs.World.{Among as IsSent, MayCome}
use Rattle.smi_law.proofs.Changes.{SameGrant, same_grant, SameLink, same_link, handed_entry}
use Rattle.smi_law.proofs.ChildKinds.{RunKind, quietly, excludes, run_kind, take_same, command_same}
use Rattle.smi_law.proofs.GrantKinds.{GrantKind, silently, granting, freeing, leaving, put_here, SameLinks}
use Rattle.smi_law.proofs.GrantKinds.{OtherLinks}
use Rattle.smi_law.proofs.HearingKinds.{hearing_kind}
use Rattle.smi_law.proofs.Moves.{at_put, at_put_link, put_link_here}
use Rattle.smi_law.proofs.Quiet.{AllQuiet, quiet_both}
use Rattle.smi_law.proofs.Viewed.{Viewed, keeper_home}
use Rattle.smi_law.proofs.Views.{Fair, fair_request}

-- nothing happens
nothing : (h : Hierarchy) (number : ℕ) (sent : List Message) (g : Grants) → GrantKind h number sent g g []
nothing h number sent g = silently [] tt (λ d. same_grant (g.records d)) (λ me d. same_link (g.links me d))

-- Takes and drops.

pub take_new : (r : Standing) (who : Holder) (s : ℕ) (q : Standing) → take_after r who s ≡ New q → q ≡ handed r who
take_new r who s q is = elim (either (is_free r.holder && (r.epoch == s && nat_lt s last_epoch))) [
  | inl t ↦
      let a : New (handed r who) ≡ New q = sym (ap (λ b. if b then New (handed r who) else Same) t) ∙ is in
      let b : handed r who ≡ q = cc in
      sym b
  | inr f ↦
      let a : Same ≡ New q = sym (ap (λ b. if b then New (handed r who) else Same) f) ∙ is in
      absurd cc
]

pub record Freed (r : Standing) (who : Holder) (e : ℕ) (q : Standing) : Type 0 where
  pub is : q ≡ handed r Free
  pub holder : r.holder ≡ who
  pub epoch : r.epoch ≡ e

pub drop_new : (r : Standing) (who : Holder) (e : ℕ) (q : Standing) → drop_after r who e ≡ New q → Freed r who e q
drop_new r who e q is = elim (either (same_holder r.holder who && (r.epoch == e && is_settled r.phase))) [
  | inl t ↦
      let a : New (handed r Free) ≡ New q = sym (ap (λ b. if b then New (handed r Free) else Same) t) ∙ is in
      let b : handed r Free ≡ q = cc in
      let c = and_parts (same_holder r.holder who) _ t in
      let d = and_parts (r.epoch == e) _ c.1 in
      record { is = sym b; holder = same_is r.holder who c.0; epoch = eqb-true r.epoch e d.0 }
  | inr f ↦
      let a : Same ≡ New q = sym (ap (λ b. if b then New (handed r Free) else Same) f) ∙ is in
      absurd cc
]

entry_granted : (x e : ℕ) (who : Holder) → is_free who ≡ false → handed_entry x e who ≡ Granted x e who
entry_granted x e Free p = absurd cc
entry_granted x e (Operator o) p = refl
entry_granted x e (Domain d) p = refl

others_put : (g : Grants) (x : ℕ) (r : Standing) (d : ℕ) → (d ≡ x → ⊥) → SameGrant (g.records d) (put g.records x r d)
others_put g x r d o = at_put (λ z. SameGrant (g.records d) z) g.records x r d (λ i. absurd (o i))
    (same_grant (g.records d))

take_kind : (h : Hierarchy) (number : ℕ) (sent : List Message) (g : Grants) (from x : ℕ) (who : Holder) (s : ℕ)
    → is_free who ≡ false → MayHold h x who → is_keeper h number x ≡ true → (v : Verdict)
    → take_after (g.records x) who s ≡ v
    → GrantKind h number sent g (decided h number g from x (Granted x ((g.records x).epoch + 1) who) v).grants
    (decided h number g from x (Granted x ((g.records x).epoch + 1) who) v).entries
take_kind h number sent g from x who s party may here (New r) is =
    subst (λ z. GrantKind h number sent g (record g { records = put g.records x r }) (z ∷ []))
    (entry_granted x ((g.records x).epoch + 1) who party)
    (granting x who party may (keeper_home _ number here)
    (put_here g.records x r ∙ take_new (g.records x) who s r is) (others_put g x r)
    (λ me d. same_link (g.links me d)))
take_kind h number sent g from x who s party may here Same is = nothing h number sent g

drop_kind : (h : Hierarchy) (number : ℕ) (sent : List Message) (g : Grants) (from x : ℕ) (who : Holder) (e : ℕ)
    (m : Message) → IsSent m sent → m.body ≡ body.Drop x who e → is_keeper h number x ≡ true → (v : Verdict)
    → drop_after (g.records x) who e ≡ v
    → GrantKind h number sent g (decided h number g from x (entry.Freed x ((g.records x).epoch + 1)) v).grants
    (decided h number g from x (entry.Freed x ((g.records x).epoch + 1)) v).entries
drop_kind h number sent g from x who e m a b here (New r) is =
    let f = drop_new (g.records x) who e r is in
    freeing x m a (b ∙ ap (λ z. body.Drop x z e) (sym f.holder)
    ∙ ap (body.Drop x (g.records x).holder) (sym f.epoch)) (keeper_home _ number here)
    (put_here g.records x r ∙ f.is) (others_put g x r) (λ me d. same_link (g.links me d))
drop_kind h number sent g from x who e m a b here Same is = nothing h number sent g

-- Runs.

started_same : (g : Grants) (x : ℕ) (busy : Bool) (own d : ℕ)
    → SameGrant (g.records d) (put g.records x (started (g.records x) busy own) d)
started_same g x busy own d =
    at_put (λ z. SameGrant (g.records d) z) g.records x (started (g.records x) busy own) d
    (λ i. subst (λ z. SameGrant (g.records z) (started (g.records x) busy own)) (sym i) (same busy))
    (same_grant (g.records d))
  where
    same : (b : Bool) → SameGrant (g.records x) (started (g.records x) b own)
    same true = record { epoch = refl; holder = refl }
    same false = record { epoch = refl; holder = refl }

settled_quiet : (d e n : ℕ) (busy : Bool) (own : ℕ) → AllQuiet (settled_at_once d e n busy own)
settled_quiet d e n true own = tt
settled_quiet d e n false own = (tt, tt)

ran_kind : (h : Hierarchy) (number : ℕ) (sent : List Message) (g : Grants) (from x e n : ℕ) (c : Command)
    (busy : Bool) (own : ℕ) → is_keeper h number x ≡ true → RunKind h g x c
    → GrantKind h number sent g (ran h number g from x e n c busy own).grants
    (ran h number g from x e n c busy own).entries
ran_kind h number sent g from x e n c busy own here (quietly quiet links) =
    silently (Ran x e n c ∷ child_entries h g x c ++ settled_at_once x e n busy own)
    (tt, quiet_both (child_entries h g x c) (settled_at_once x e n busy own) quiet (settled_quiet x e n busy own))
    (started_same g x busy own) links
ran_kind h number sent g from x e n c busy own here (excludes t f k was becomes entries others) =
    subst (λ z. GrantKind h number sent g (ran h number g from x e n c busy own).grants
    (Ran x e n c ∷ z ++ settled_at_once x e n busy own)) (sym entries)
    (leaving (Domain x) t f k [] (Ran x e n c ∷ []) (settled_at_once x e n busy own) refl (keeper_home _ number here)
    was becomes others (started_same g x busy own) (tt, tt) (settled_quiet x e n busy own))

run_kind_of : (h : Hierarchy) (number : ℕ) (sent : List Message) (g : Grants) (from x : ℕ) (who : Holder) (e n : ℕ)
    (c : Command) → is_keeper h number x ≡ true
    → GrantKind h number sent g (run_comes h number g from x who e n c).grants
    (run_comes h number g from x who e n c).entries
run_kind_of h number sent g from x who e n c here = elim (either (admits (g.records x) who e n)) [
  | inl t ↦ rw t (ran_kind h number sent g from x e n c (waits_for_children h (commanded h g x c) x)
      (own_code h g x c) here (run_kind h g x c))
  | inr f ↦ rw f (nothing h number sent g)
]

-- Orders.

relinked_all : (g : Grants) (who : Holder) (x : ℕ) (new : Link) → SameLink (g.links who x) new
    → SameLinks g (with_link g who x new)
relinked_all g who x new same me d =
    at_put_link (λ z. SameLink (g.links me d) z) g.links who x new me d
    (λ i j. subst (λ z. SameLink (g.links z d) new) (sym j) (subst (λ z. SameLink (g.links who z) new) (sym i) same))
    (same_link (g.links me d))

relinked_others : (g : Grants) (who : Holder) (x : ℕ) (new : Link) → OtherLinks g (with_link g who x new) who x
relinked_others g who x new me d o =
    at_put_link (λ z. SameLink (g.links me d) z) g.links who x new me d (λ i j. absurd (o j i))
    (same_link (g.links me d))

module _ (h : Hierarchy) (number : ℕ) (sent : List Message) (g : Grants) (o x : ℕ)
    (here : holder_home h (Operator o) ≡ number) where
  takes : (res : Result Link ℕ) → take_begun (g.links (Operator o) x) ≡ res
      → GrantKind h number sent g (obeyed h number g o x None res).grants (obeyed h number g o x None res).entries
  takes (Ok new) is =
      let b = take_begins (g.links (Operator o) x) new is in
      silently (order_entries o x None new) (subst (λ z. AllQuiet (order_entries o x None z)) (sym b.2) tt)
      (λ d. same_grant (g.records d))
      (relinked_all g (Operator o) x new (take_same (g.links (Operator o) x) new is))
  takes (Err code) is = nothing h number sent g

  drops : (res : Result Link ℕ) → drop_begun (g.links (Operator o) x) ≡ res
      → GrantKind h number sent g (obeyed h number g o x None res).grants (obeyed h number g o x None res).entries
  drops (Ok new) is =
      let b = drop_begins (g.links (Operator o) x) new is in
      subst (λ z. GrantKind h number sent g (with_link g (Operator o) x new) (order_entries o x None z)) (sym b.3)
      (leaving (Operator o) x b.0 b.1 [] [] [] refl here b.2 (put_link_here g.links (Operator o) x new ∙ b.3)
      (relinked_others g (Operator o) x new) (λ d. same_grant (g.records d)) tt tt)
  drops (Err code) is = nothing h number sent g

  commands : (c : Command) (res : Result Link ℕ) → command_issued (g.links (Operator o) x) c ≡ res
      → GrantKind h number sent g (obeyed h number g o x (Some c) res).grants
      (obeyed h number g o x (Some c) res).entries
  commands c (Ok new) is =
      let b = command_issues (g.links (Operator o) x) c new is in
      silently (order_entries o x (Some c) new) (subst (λ z. AllQuiet (order_entries o x (Some c) z)) (sym b.becomes)
      (tt, tt)) (λ d. same_grant (g.records d))
      (relinked_all g (Operator o) x new (command_same (g.links (Operator o) x) c new is))
  commands c (Err code) is = nothing h number sent g

order_kind : (h : Hierarchy) (number : ℕ) (sent : List Message) (g : Grants) (o : ℕ)
    → holder_home h (Operator o) ≡ number → (what : Order)
    → GrantKind h number sent g (order_comes h number g o what).grants (order_comes h number g o what).entries
order_kind h number sent g o here (order.Take x) =
    takes h number sent g o x here (take_begun (g.links (Operator o) x)) refl
order_kind h number sent g o here (order.Drop x) =
    drops h number sent g o x here (drop_begun (g.links (Operator o) x)) refl
order_kind h number sent g o here (order.Do x a) =
    commands h number sent g o x here (Do a) (command_issued (g.links (Operator o) x) (Do a)) refl
order_kind h number sent g o here (order.Include x t) =
    commands h number sent g o x here (Include t) (command_issued (g.links (Operator o) x) (Include t)) refl
order_kind h number sent g o here (order.Exclude x t) =
    commands h number sent g o x here (Exclude t) (command_issued (g.links (Operator o) x) (Exclude t)) refl
order_kind h number sent g o here (order.Manual x t) =
    commands h number sent g o x here (Manual t) (command_issued (g.links (Operator o) x) (Manual t)) refl
order_kind h number sent g o here (order.Ignore x t) =
    commands h number sent g o x here (Ignore t) (command_issued (g.links (Operator o) x) (Ignore t)) refl
order_kind h number sent g o here (order.Ask x) = nothing h number sent g
order_kind h number sent g o here (order.Watch x) = nothing h number sent g
order_kind h number sent g o here (order.Unwatch x) = nothing h number sent g
order_kind h number sent g o here (order.Report device s) = nothing h number sent g

-- Datagrams that are not refused.

not_some : (code : ℕ) → Some code ≡ None → ⊥
not_some code i = cc

pub understood : (h : Hierarchy) (number : ℕ) (m : Message) → refusal_of_message h number m ≡ None
    → is_body_of h m.from number m.body ≡ true
understood h number m none = elim (either (not (m.tree == h.number))) [
  | inl t ↦ absurd (not_some 7 (sym (ap (λ b. if b then Some 7 else inner) t) ∙ none))
  | inr f ↦ elim (either (not (m.to == number))) [
    | inl t ↦ absurd
        (not_some 8 (sym (ap (λ b. if b then Some 7 else inner) f ∙ ap (λ b. if b then Some 8 else last) t) ∙ none))
    | inr g ↦ elim (either (is_between 1 (station_count h) m.from && is_body_of h m.from m.to m.body)) [
      | inl t ↦
          let a = and_parts (is_between 1 (station_count h) m.from) _ t in
          subst (λ z. is_body_of h m.from z m.body ≡ true) (eqb-true m.to number (not_not (m.to == number) g)) a.1
      | inr k ↦ absurd
          (not_some 9 (sym (ap (λ b. if b then Some 7 else inner) f ∙ ap (λ b. if b then Some 8 else last) g
          ∙ ap (λ b. if b then None else Some 9) k) ∙ none))
    ]
  ]
]
  where
    last : Option ℕ
    last = if is_between 1 (station_count h) m.from && is_body_of h m.from m.to m.body then None else Some 9

    inner : Option ℕ
    inner = if not (m.to == number) then Some 8 else last

    not_not : (b : Bool) → not b ≡ false → b ≡ true
    not_not true i = refl
    not_not false i = absurd cc

number_is : (o : Option ℕ) (n : ℕ) → is_number o n ≡ true → o ≡ Some n
number_is None n i = absurd cc
number_is (Some m) n i = ap Some (eqb-true m n i)

may_hold : (h : Hierarchy) (from x : ℕ) (who : Holder) → is_free who ≡ false → is_holder_of h x who ≡ true
    → is_number (holder_station h who) from ≡ true → MayHold h x who
may_hold h from x Free party i at = absurd cc
may_hold h from x (Operator o) party i at = (from, number_is (operator_station_of h o) from at)
may_hold h from x (Domain p) party i at = number_is (parent_of h x) p i

body_kind : (h : Hierarchy) (w : World) (number from : ℕ) (m : Message) → IsSent m w.sent → Viewed h w → (b : Body)
    → m.body ≡ b → is_body_of h from number b ≡ true
    → GrantKind h number w.sent (w.stations number).grants
    (datagram_comes h number (w.stations number).grants from b).grants
    (datagram_comes h number (w.stations number).grants from b).entries
body_kind h w number from m a v (body.Ask x) b ok = nothing h number w.sent (w.stations number).grants
body_kind h w number from m a v (body.Take x who s) b ok =
    let parts = and_parts (is_keeper h number x) _ ok in
    let speaks = and_parts (is_holder_of h x who) _ parts.1 in
    let range = fair_request x who (Take s) (subst Fair b (v.range m a)) in
    take_kind h number w.sent (w.stations number).grants from x who s range.held
    (may_hold h from x who range.held speaks.0 speaks.1) parts.0
    (take_after ((w.stations number).grants.records x) who s) refl
body_kind h w number from m a v (body.Drop x who e) b ok =
    let parts = and_parts (is_keeper h number x) _ ok in
    drop_kind h number w.sent (w.stations number).grants from x who e m a b parts.0
    (drop_after ((w.stations number).grants.records x) who e) refl
body_kind h w number from m a v (body.Run x who e n c) b ok =
    let parts = and_parts (is_keeper h number x) _ ok in
    run_kind_of h number w.sent (w.stations number).grants from x who e n c parts.0
body_kind h w number from m a v (body.Tell x r) b ok = hearing_kind h w number x r v
body_kind h w number from m a v (body.Watch x echo) b ok = nothing h number w.sent (w.stations number).grants
body_kind h w number from m a v (body.State x echo q s) b ok = nothing h number w.sent (w.stations number).grants
body_kind h w number from m a v (body.Unwatch x echo) b ok = nothing h number w.sent (w.stations number).grants

pub order_here : (h : Hierarchy) (number : ℕ) (g : Grants) (o : ℕ) (what : Order)
    → refusal_of h number g (Orders o what) ≡ None → holder_home h (Operator o) ≡ number
order_here h number g o what none = elim (either (is_order_here h number o what)) [
  | inl t ↦ let a = and_parts (is_number (operator_station_of h o) number) _ t in
      keeper_home (operator_station_of h o) number a.0
  | inr f ↦ absurd (not_some 26 (sym (ap (λ b. if b then refusal_by_link h g o what else Some 26) f) ∙ none))
]

-- what is not refused is one of the kinds
pub step_kind : (h : Hierarchy) (w : World) (number : ℕ) (what : Happening) → MayCome w what → Viewed h w
    → refusal_of h number (w.stations number).grants what ≡ None
    → GrantKind h number w.sent (w.stations number).grants
    (grant_step h number (w.stations number).grants what).grants
    (grant_step h number (w.stations number).grants what).entries
step_kind h w number (Comes m) may v none = body_kind h w number m.from m may v m.body refl (understood h number m none)
step_kind h w number (Orders o what) may v none =
    order_kind h number w.sent (w.stations number).grants o
    (order_here h number (w.stations number).grants o what none) what
step_kind h w number (Reports device s) may v none = nothing h number w.sent (w.stations number).grants
step_kind h w number Ticks may v none = nothing h number w.sent (w.stations number).grants
