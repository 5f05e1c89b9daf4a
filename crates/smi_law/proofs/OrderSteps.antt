-- What an operator has issued by the trace is what the operator's link says.
use Rattle.std.proofs.Common.{ℕ, ◌≡◌, ◌≤◌, ◌+◌, Bool, true, false, List, [], ◌∷◌, inl, inr, refl, sym, ap, ◌∙◌, subst}
use Rattle.std.proofs.Common.{arith}
use Rattle.std.specs.Prelude.{◌==◌, ◌&&◌, ◌++◌, Option, Some, None, Result, Ok, Err, if◌then◌else◌}
use Rattle.std.proofs.lemmas.Bool.{and_parts}
use Rattle.smi_grant.specs.declared.Command.{Command}
use Rattle.smi_grant.specs.declared.Command.TheVariants.{Do, Include, Exclude, Manual, Ignore}
use Rattle.smi_grant.specs.declared.Holder.{Holder}
use Rattle.smi_grant.specs.declared.Holder.TheVariants.{Free, Operator, Domain}
use Rattle.smi_grant.specs.declared.Verdict.{Verdict}
use Rattle.smi_grant.specs.declared.Verdict.TheVariants.{New, Same}
use Rattle.smi_grant.specs.Holder.{same_holder}
use Rattle.smi_grant.specs.Keeper.{take_after, drop_after, admits}
use Rattle.smi_grant.specs.Record.{Standing}
use Rattle.smi_message.specs.declared.Body.{Body}
use Rattle.smi_message.specs.declared.Body.TheVariants as body
use Rattle.smi_tree.specs.Hierarchy.{Hierarchy}
use Rattle.smi_command.specs.declared.Link.{Link}
use Rattle.smi_command.specs.declared.Link.TheVariants.{Out, Taking, Held, Dropping}
use Rattle.smi_command.specs.Hearing.{told_link}
use Rattle.smi_command.specs.Link.{known}
use Rattle.smi_command.specs.OneLink.{Job, job, issued_under}
use Rattle.smi_command.specs.Order.{take_begun, drop_begun, command_issued}
use Rattle.smi_command.proofs.Epochs.{known_told, known_taken, known_dropped}
use Rattle.smi_command.proofs.Heard.{Quiet, quiet_same, quiet_taking, quiet_dropping, told_quiet}
use Rattle.smi_grant.proofs.Holders.{either}
use Rattle.smi_command.proofs.Orders.{take_begins, drop_begins, command_issues}
use Rattle.smi_tree.specs.Roles.{is_parent}
use Rattle.smi_protocol.specs.Children.{ChildChange, Stays, Relinked, ComesInto, change_of, own_code, links_after}
use Rattle.smi_protocol.specs.Grants.{Grants, put_link, with_link}
use Rattle.smi_protocol.specs.GrantStep.{waits_for_children}
use Rattle.smi_protocol.specs.GrantsOf.{datagram_comes, grant_step}
use Rattle.smi_protocol.specs.Happening.{Happening, Comes, Orders, Reports, Ticks}
use Rattle.smi_protocol.specs.Hearing.{listeners, listener, learned, told_to, parent_heard, ends, ended}
use Rattle.smi_protocol.specs.Hearing.{ended_entries}
use Rattle.smi_protocol.specs.Keeping.{decided, commanded, let_go_of, mode_changed, entries_at, child_entries}
use Rattle.smi_protocol.specs.Keeping.{settled_at_once, run_comes}
use Rattle.smi_protocol.specs.Ordering.{order_entries, obeyed, order_comes}
use Rattle.smi_protocol.specs.Refusals.{refusal_of}
use Rattle.smi_protocol.specs.declared.Entry.{Entry}
use Rattle.smi_protocol.specs.declared.Entry.TheVariants.{Booted, Granted, Freed, Ordered, Ran, Learned, LetGo}
use Rattle.smi_protocol.specs.declared.Entry.TheVariants.{InMode, Settled, Showed, Passed, Told}
use Rattle.smi_protocol.specs.declared.Order.{Order}
use Rattle.smi_protocol.specs.declared.Order.TheVariants as order
use Rattle.smi_law.specs.Known.{holder_home, record_in, link_in}
use Rattle.smi_protocol.specs.Schedule.{World}
use Rattle.smi_law.specs.Trace.{orders_of}
use Rattle.smi_law.proofs.HearingKinds.{IsHere, all_found, listeners_here, within_epochs}
use Rattle.smi_law.proofs.Moves.{at_put_link, put_link_here}
use Rattle.smi_law.proofs.StepKinds.{order_here}
use Rattle.smi_law.proofs.Viewed.{Viewed, view_fits}

-- the commands that an operator has issued for a domain
unfoldable pub issued_at : ℕ → ℕ → List Entry → List Job
issued_at o d [] = []
issued_at o d (Ordered p x e n c ∷ past) =
    if p == o && x == d then job (Operator o) e n c ∷ issued_at o d past else issued_at o d past
issued_at o d (other ∷ past) = issued_at o d past

pick : (a b : Bool) (f m e n : ℕ) (c : Command) (o : ℕ) (found : List Command) (issued : List Job)
    → found ≡ issued_under e n issued
    → (if a && (b && (f == e && m == n)) then c ∷ found else found)
    ≡ issued_under e n (if a && b then job (Operator o) f m c ∷ issued else issued)
pick true true f m e n c o found issued same = ap (λ z. if f == e && m == n then c ∷ z else z) same
pick true false f m e n c o found issued same = same
pick false b f m e n c o found issued same = same

-- the same, number by number
pub orders_issued : (o d e n : ℕ) (past : List Entry) → orders_of o d e n past ≡ issued_under e n (issued_at o d past)
unfolding orders_of issued_at
orders_issued o d e n [] = refl
orders_issued o d e n (Ordered p x f m c ∷ past) =
    pick (p == o) (x == d) f m e n c o (orders_of o d e n past) (issued_at o d past) (orders_issued o d e n past)
orders_issued o d e n (Booted s b ∷ past) = orders_issued o d e n past
orders_issued o d e n (Granted x f who ∷ past) = orders_issued o d e n past
orders_issued o d e n (Freed x f ∷ past) = orders_issued o d e n past
orders_issued o d e n (Ran x f m c ∷ past) = orders_issued o d e n past
orders_issued o d e n (Learned who x f ∷ past) = orders_issued o d e n past
orders_issued o d e n (LetGo who x f ∷ past) = orders_issued o d e n past
orders_issued o d e n (InMode x m ∷ past) = orders_issued o d e n past
orders_issued o d e n (Settled x f m q ∷ past) = orders_issued o d e n past
orders_issued o d e n (Showed s v ∷ past) = orders_issued o d e n past
orders_issued o d e n (Passed v ∷ past) = orders_issued o d e n past
orders_issued o d e n (Told b t ∷ past) = orders_issued o d e n past

-- no command is issued
abbrev pub IsNoOrder : Entry → Type 0
IsNoOrder (Ordered o d e n c) = ⊥
IsNoOrder (Booted s b) = Unit {0}
IsNoOrder (Granted x f who) = Unit {0}
IsNoOrder (Freed x f) = Unit {0}
IsNoOrder (Ran x f m c) = Unit {0}
IsNoOrder (Learned who x f) = Unit {0}
IsNoOrder (LetGo who x f) = Unit {0}
IsNoOrder (InMode x m) = Unit {0}
IsNoOrder (Settled x f m q) = Unit {0}
IsNoOrder (Showed s v) = Unit {0}
IsNoOrder (Passed v) = Unit {0}
IsNoOrder (Told b t) = Unit {0}

abbrev pub NoOrders : List Entry → Type 0
NoOrders [] = Unit {0}
NoOrders (x ∷ more) = IsNoOrder x × NoOrders more

pub no_both : (xs ys : List Entry) → NoOrders xs → NoOrders ys → NoOrders (xs ++ ys)
no_both [] ys a b = b
no_both (x ∷ xs) ys a b = (a.0, no_both xs ys a.1 b)

pub issued_same : (o d : ℕ) (y : Entry) (past : List Entry) → IsNoOrder y
    → issued_at o d (y ∷ past) ≡ issued_at o d past
unfolding issued_at
issued_same o d (Ordered p x f m c) past calm = absurd calm
issued_same o d (Booted s b) past calm = refl
issued_same o d (Granted x f who) past calm = refl
issued_same o d (Freed x f) past calm = refl
issued_same o d (Ran x f m c) past calm = refl
issued_same o d (Learned who x f) past calm = refl
issued_same o d (LetGo who x f) past calm = refl
issued_same o d (InMode x m) past calm = refl
issued_same o d (Settled x f m q) past calm = refl
issued_same o d (Showed s v) past calm = refl
issued_same o d (Passed v) past calm = refl
issued_same o d (Told b t) past calm = refl

pub issued_more : (o d p x e n : ℕ) (c : Command) (past : List Entry)
    → issued_at o d (Ordered p x e n c ∷ past)
    ≡ (if p == o && x == d then job (Operator o) e n c ∷ issued_at o d past else issued_at o d past)
unfolding issued_at
issued_more o d p x e n c past = refl

pub issued_none : (o d : ℕ) → issued_at o d [] ≡ []
unfolding issued_at
issued_none o d = refl

-- What a step does to an operator's links: nothing is issued, or one command is.

pub record Calm (l k : Link) : Type 0 where
  pub known : known l ≤ known k
  pub quiet : Quiet l k

pub calm_same : (l : Link) → Calm l l
calm_same l = record { known = omega arith; quiet = quiet_same l }

abbrev pub AllCalm : Grants → Grants → Type 0
AllCalm g k = (o d : ℕ) → Calm (g.links (Operator o) d) (k.links (Operator o) d)

pub data OrderStep (h : Hierarchy) (number : ℕ) (g k : Grants) : List Entry → Type 0 where
  no_order : (new : List Entry) → NoOrders new → AllCalm g k → OrderStep h number g k new
  ordering : (o x e n : ℕ) (p : List Command) (c : Command) → holder_home h (Operator o) ≡ number
      → g.links (Operator o) x ≡ Held e n p → k.links (Operator o) x ≡ Held e (n + 1) (p ++ c ∷ [])
      → ((b d : ℕ) → (b ≡ o → d ≡ x → ⊥) → Calm (g.links (Operator b) d) (k.links (Operator b) d))
      → OrderStep h number g k (Ordered o x e (n + 1) c ∷ [])

nothing : (h : Hierarchy) (number : ℕ) (g : Grants) → OrderStep h number g g []
nothing h number g = no_order [] tt (λ o d. calm_same (g.links (Operator o) d))

-- The keeper's side issues nothing.

decided_calm : (h : Hierarchy) (number : ℕ) (g : Grants) (from x : ℕ) (note : Entry) → IsNoOrder note → (v : Verdict)
    → OrderStep h number g (decided h number g from x note v).grants (decided h number g from x note v).entries
decided_calm h number g from x note calm (New r) =
    no_order (note ∷ []) (calm, tt) (λ o d. calm_same (g.links (Operator o) d))
decided_calm h number g from x note calm Same = nothing h number g

let_go_no : (d x : ℕ) (change : ChildChange) → NoOrders (let_go_of d x change)
let_go_no d x (Stays code) = tt
let_go_no d x (Relinked (Out k)) = tt
let_go_no d x (Relinked (Taking s)) = tt
let_go_no d x (Relinked (Held e n p)) = tt
let_go_no d x (Relinked (Dropping e)) = (tt, tt)
let_go_no d x (ComesInto m) = tt

mode_no : (x : ℕ) (change : ChildChange) → NoOrders (mode_changed x change)
mode_no x (Stays code) = tt
mode_no x (Relinked l) = tt
mode_no x (ComesInto m) = (tt, tt)

at_no : (h : Hierarchy) (g : Grants) (d : ℕ) (c : Command) (t : ℕ) → NoOrders (entries_at h g d c t)
at_no h g d c t = elim (either (is_parent h t d)) [
  | inl i ↦ rw i (no_both (let_go_of d t (change_of h g d c t)) (mode_changed t (change_of h g d c t))
      (let_go_no d t (change_of h g d c t)) (mode_no t (change_of h g d c t)))
  | inr f ↦ rw f tt
]

child_no : (h : Hierarchy) (g : Grants) (d : ℕ) (c : Command) → NoOrders (child_entries h g d c)
child_no h g d (Do a) = tt
child_no h g d (Include t) = at_no h g d (Include t) t
child_no h g d (Exclude t) = at_no h g d (Exclude t) t
child_no h g d (Manual t) = at_no h g d (Manual t) t
child_no h g d (Ignore t) = at_no h g d (Ignore t) t

settled_no : (d e n : ℕ) (busy : Bool) (own : ℕ) → NoOrders (settled_at_once d e n busy own)
settled_no d e n true own = tt
settled_no d e n false own = (tt, tt)

-- a command leaves the links of operators
operators_stay : (h : Hierarchy) (g : Grants) (d : ℕ) (c : Command) (o x : ℕ)
    → Calm (g.links (Operator o) x) (links_after h g d c (Operator o) x)
operators_stay h g d c o x = elim (either (is_parent h x d && same_holder (Operator o) (Domain d))) [
  | inl t ↦ let a : false ≡ true = (and_parts (is_parent h x d) _ t).1 in absurd cc
  | inr f ↦ rw f (calm_same (g.links (Operator o) x))
]

run_calm : (h : Hierarchy) (number : ℕ) (g : Grants) (from x : ℕ) (who : Holder) (e n : ℕ) (c : Command)
    → OrderStep h number g (run_comes h number g from x who e n c).grants
    (run_comes h number g from x who e n c).entries
run_calm h number g from x who e n c = elim (either (admits (g.records x) who e n)) [
  | inl t ↦ rw t (no_order (Ran x e n c ∷ child_entries h g x c ++ settled_at_once x e n busy own) (
    tt,
    no_both (child_entries h g x c) (settled_at_once x e n busy own) (child_no h g x c)
        (settled_no x e n busy own),
  ) (operators_stay h g x c))
  | inr f ↦ rw f (nothing h number g)
]
  where
    busy : Bool
    busy = waits_for_children h (commanded h g x c) x

    own : ℕ
    own = own_code h g x c

-- A record is told.

learned_no : (who : Holder) (d : ℕ) (l new : Link) → NoOrders (learned who d l new)
learned_no who d (Out k) new = tt
learned_no who d (Held e n p) new = tt
learned_no who d (Dropping e) new = tt
learned_no who d (Taking s) (Out k) = tt
learned_no who d (Taking s) (Taking u) = tt
learned_no who d (Taking s) (Held e n p) = (tt, tt)
learned_no who d (Taking s) (Dropping e) = tt

ended_no : (b : Bool) (on : Grants) (p : ℕ) → NoOrders (ended_entries b on p)
ended_no true on p = (tt, tt)
ended_no false on p = tt

ended_links : (b : Bool) (on : Grants) (p : ℕ) → (ended b on p).links ≡ on.links
ended_links true on p = refl
ended_links false on p = refl

relinked_calm : (g : Grants) (who : Holder) (x : ℕ) (new : Link) → Calm (g.links who x) new → (o d : ℕ)
    → Calm (g.links (Operator o) d) (put_link g.links who x new (Operator o) d)
relinked_calm g who x new calm o d =
    at_put_link (λ z. Calm (g.links (Operator o) d) z) g.links who x new (Operator o) d
    (λ i j. subst (λ z. Calm (g.links z d) new) (sym j) (subst (λ z. Calm (g.links who z) new) (sym i) calm))
    (calm_same (g.links (Operator o) d))

told_calm : (h : Hierarchy) (w : World) (number d : ℕ) (r : Standing) (who : Holder) → IsHere h number who
    → Viewed h w → Calm ((w.stations number).grants.links who d)
    (told_link ((w.stations number).grants.links who d) who r)
told_calm h w number d r who here v =
    let f = view_fits h w d who here.party (v.each d who) in
    record {
      known = known_told ((w.stations number).grants.links who d) who r
          (within_epochs h w number who d here.party here.home v);
      quiet = subst (λ z. Quiet ((w.stations z).grants.links who d)
          (told_link ((w.stations z).grants.links who d) who r)) here.home
          (told_quiet (link_in h w who d) who r (record_in h w d) f.link);
    }

tell_calm : (h : Hierarchy) (w : World) (number d : ℕ) (r : Standing) → Viewed h w → (o : Option Holder)
    → ((who : Holder) → o ≡ Some who → IsHere h number who)
    → OrderStep h number (w.stations number).grants (told_to h number (w.stations number).grants d r o).grants
    (told_to h number (w.stations number).grants d r o).entries
tell_calm h w number d r v None here = nothing h number (w.stations number).grants
tell_calm h w number d r v (Some Free) here = nothing h number (w.stations number).grants
tell_calm h w number d r v (Some (Operator o)) here =
    let g = (w.stations number).grants in
    no_order (told_to h number g d r (Some (Operator o))).entries
    (learned_no (Operator o) d (g.links (Operator o) d) (told_link (g.links (Operator o) d) (Operator o) r))
    (relinked_calm g (Operator o) d (told_link (g.links (Operator o) d) (Operator o) r)
    (told_calm h w number d r (Operator o) (here (Operator o) refl) v))
tell_calm h w number d r v (Some (Domain p)) here =
    let g = (w.stations number).grants in
    let on = parent_heard g p d r in
    no_order (told_to h number g d r (Some (Domain p))).entries
    (no_both (learned (Domain p) d (g.links (Domain p) d) (on.links (Domain p) d)) (ended_entries (ends h on p) on p)
    (learned_no (Domain p) d (g.links (Domain p) d) (on.links (Domain p) d)) (ended_no (ends h on p) on p))
    (λ o x. subst (λ (z : Holder → ℕ → Link). Calm (g.links (Operator o) x) (z (Operator o) x))
    (sym (ended_links (ends h on p) on p))
    (relinked_calm g (Domain p) d (told_link (g.links (Domain p) d) (Domain p) r)
    (told_calm h w number d r (Domain p) (here (Domain p) refl) v) o x))

hear_calm : (h : Hierarchy) (w : World) (number d : ℕ) (r : Standing) → Viewed h w
    → OrderStep h number (w.stations number).grants
    (told_to h number (w.stations number).grants d r (listener h number (w.stations number).grants d r)).grants
    (told_to h number (w.stations number).grants d r (listener h number (w.stations number).grants d r)).entries
hear_calm h w number d r v = tell_calm h w number d r v (listener h number (w.stations number).grants d r)
    (λ who is. all_found (IsHere h number) _ (listeners h number d) who (listeners_here h number d) is)

-- Orders.

module _ (h : Hierarchy) (number : ℕ) (g : Grants) (o x : ℕ) (here : holder_home h (Operator o) ≡ number) where
  takes : (res : Result Link ℕ) → take_begun (g.links (Operator o) x) ≡ res
      → OrderStep h number g (obeyed h number g o x None res).grants (obeyed h number g o x None res).entries
  takes (Ok new) is =
      let b = take_begins (g.links (Operator o) x) new is in
      let k = known_taken (g.links (Operator o) x) new is in
      no_order (order_entries o x None new) (subst (λ z. NoOrders (order_entries o x None z)) (sym b.2) tt)
      (relinked_calm g (Operator o) x new
      (record {
        known = omega (arith, k);
        quiet = subst (Quiet (g.links (Operator o) x)) (sym b.2)
            (quiet_taking (g.links (Operator o) x) b.0);
      }))
  takes (Err code) is = nothing h number g

  drops : (res : Result Link ℕ) → drop_begun (g.links (Operator o) x) ≡ res
      → OrderStep h number g (obeyed h number g o x None res).grants (obeyed h number g o x None res).entries
  drops (Ok new) is =
      let b = drop_begins (g.links (Operator o) x) new is in
      let k = known_dropped (g.links (Operator o) x) new is in
      no_order (order_entries o x None new) (subst (λ z. NoOrders (order_entries o x None z)) (sym b.3) (tt, tt))
      (relinked_calm g (Operator o) x new
      (record {
        known = omega (arith, k);
        quiet = subst (Quiet (g.links (Operator o) x)) (sym b.3)
            (quiet_dropping (g.links (Operator o) x) b.0);
      }))
  drops (Err code) is = nothing h number g

  commands : (c : Command) (res : Result Link ℕ) → command_issued (g.links (Operator o) x) c ≡ res
      → OrderStep h number g (obeyed h number g o x (Some c) res).grants (obeyed h number g o x (Some c) res).entries
  commands c (Ok new) is =
      let b = command_issues (g.links (Operator o) x) c new is in
      subst (λ z. OrderStep h number g (with_link g (Operator o) x new) (order_entries o x (Some c) z)) (sym b.becomes)
      (ordering o x b.epoch b.number b.pending c here b.was (put_link_here g.links (Operator o) x new ∙ b.becomes)
      (λ p d other. at_put_link (λ z. Calm (g.links (Operator p) d) z) g.links (Operator o) x new (Operator p) d
      (λ i j. let same : p ≡ o = cc in absurd (other same i)) (calm_same (g.links (Operator p) d))))
  commands c (Err code) is = nothing h number g

order_step : (h : Hierarchy) (number : ℕ) (g : Grants) (o : ℕ) → holder_home h (Operator o) ≡ number → (what : Order)
    → OrderStep h number g (order_comes h number g o what).grants (order_comes h number g o what).entries
order_step h number g o here (order.Take x) = takes h number g o x here (take_begun (g.links (Operator o) x)) refl
order_step h number g o here (order.Drop x) = drops h number g o x here (drop_begun (g.links (Operator o) x)) refl
order_step h number g o here (order.Do x a) =
    commands h number g o x here (Do a) (command_issued (g.links (Operator o) x) (Do a)) refl
order_step h number g o here (order.Include x t) =
    commands h number g o x here (Include t) (command_issued (g.links (Operator o) x) (Include t)) refl
order_step h number g o here (order.Exclude x t) =
    commands h number g o x here (Exclude t) (command_issued (g.links (Operator o) x) (Exclude t)) refl
order_step h number g o here (order.Manual x t) =
    commands h number g o x here (Manual t) (command_issued (g.links (Operator o) x) (Manual t)) refl
order_step h number g o here (order.Ignore x t) =
    commands h number g o x here (Ignore t) (command_issued (g.links (Operator o) x) (Ignore t)) refl
order_step h number g o here (order.Ask x) = nothing h number g
order_step h number g o here (order.Watch x) = nothing h number g
order_step h number g o here (order.Unwatch x) = nothing h number g
order_step h number g o here (order.Report device s) = nothing h number g

body_step : (h : Hierarchy) (w : World) (number from : ℕ) → Viewed h w → (b : Body)
    → OrderStep h number (w.stations number).grants (datagram_comes h number (w.stations number).grants from b).grants
    (datagram_comes h number (w.stations number).grants from b).entries
body_step h w number from v (body.Ask x) = nothing h number (w.stations number).grants
body_step h w number from v (body.Take x who s) =
    decided_calm h number (w.stations number).grants from x
    (Granted x (((w.stations number).grants.records x).epoch + 1) who) tt
    (take_after ((w.stations number).grants.records x) who s)
body_step h w number from v (body.Drop x who e) =
    decided_calm h number (w.stations number).grants from x
    (Freed x (((w.stations number).grants.records x).epoch + 1)) tt
    (drop_after ((w.stations number).grants.records x) who e)
body_step h w number from v (body.Run x who e n c) = run_calm h number (w.stations number).grants from x who e n c
body_step h w number from v (body.Tell x r) = hear_calm h w number x r v
body_step h w number from v (body.Watch x echo) = nothing h number (w.stations number).grants
body_step h w number from v (body.State x echo q s) = nothing h number (w.stations number).grants
body_step h w number from v (body.Unwatch x echo) = nothing h number (w.stations number).grants

pub step_order : (h : Hierarchy) (w : World) (number : ℕ) (what : Happening) → Viewed h w
    → refusal_of h number (w.stations number).grants what ≡ None
    → OrderStep h number (w.stations number).grants (grant_step h number (w.stations number).grants what).grants
    (grant_step h number (w.stations number).grants what).entries
step_order h w number (Comes m) v none = body_step h w number m.from v m.body
step_order h w number (Orders o what) v none =
    order_step h number (w.stations number).grants o (order_here h number (w.stations number).grants o what none) what
step_order h w number (Reports device s) v none = nothing h number (w.stations number).grants
step_order h w number Ticks v none = nothing h number (w.stations number).grants
