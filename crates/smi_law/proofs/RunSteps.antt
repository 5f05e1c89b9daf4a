-- What an event does to the runs of a station's domains: none, a change of hands, or the next one.
use Rattle.std.proofs.Common.{ℕ, ◌≡◌, ◌+◌, Bool, true, false, List, [], ◌∷◌, inl, inr, refl, sym, ap, ◌∙◌, subst}
use Rattle.std.specs.Prelude.{◌++◌, Option, Some, None, Result, Ok, Err}
use Rattle.std.proofs.lemmas.Bool.{and_parts}
use Rattle.smi_grant.specs.declared.Command.{Command}
use Rattle.smi_grant.specs.declared.Command.TheVariants.{Do, Include, Exclude, Manual, Ignore}
use Rattle.smi_grant.specs.declared.Holder.{Holder}
use Rattle.smi_grant.specs.declared.Holder.TheVariants.{Free, Operator, Domain}
use Rattle.smi_grant.specs.declared.Verdict.{Verdict}
use Rattle.smi_grant.specs.declared.Verdict.TheVariants.{New, Same}
use Rattle.smi_grant.specs.Keeper.{handed, take_after, drop_after, admits, started, settled}
use Rattle.smi_grant.specs.Record.{Standing}
use Rattle.smi_message.specs.declared.Body.{Body}
use Rattle.smi_message.specs.declared.Body.TheVariants as body
use Rattle.smi_tree.specs.Hierarchy.{Hierarchy}
use Rattle.smi_command.specs.declared.Link.{Link}
use Rattle.smi_command.specs.declared.Link.TheVariants.{Out, Taking, Held, Dropping}
use Rattle.smi_command.specs.Order.{take_begun, drop_begun, command_issued}
use Rattle.smi_command.specs.Hearing.{told_link}
use Rattle.smi_command.proofs.Asked.{admitted}
use Rattle.smi_grant.proofs.Holders.{either}
use Rattle.smi_tree.specs.Roles.{is_parent, is_keeper}
use Rattle.smi_protocol.specs.Grants.{Grants, put}
use Rattle.smi_protocol.specs.Children.{ChildChange, Stays, Relinked, ComesInto, change_of, own_code}
use Rattle.smi_protocol.specs.GrantStep.{waits_for_children}
use Rattle.smi_protocol.specs.GrantsOf.{datagram_comes, grant_step}
use Rattle.smi_protocol.specs.Happening.{Happening, Comes, Orders, Reports, Ticks}
use Rattle.smi_protocol.specs.Hearing.{listener, learned, told_to, parent_heard, ends, ended, ended_entries}
use Rattle.smi_protocol.specs.Keeping.{decided, commanded, let_go_of, mode_changed, entries_at, child_entries}
use Rattle.smi_protocol.specs.Keeping.{settled_at_once, ran, run_comes}
use Rattle.smi_protocol.specs.Messages.{home}
use Rattle.smi_protocol.specs.Ordering.{order_entries, obeyed, order_comes}
use Rattle.smi_protocol.specs.Refusals.{is_body_of, refusal_of}
use Rattle.smi_protocol.specs.declared.Entry.{Entry}
use Rattle.smi_protocol.specs.declared.Entry.TheVariants.{Booted, Granted, Freed, Ordered, Ran, Learned, LetGo}
use Rattle.smi_protocol.specs.declared.Entry.TheVariants.{InMode, Settled, Showed, Passed, Told}
use Rattle.smi_protocol.specs.declared.Order.{Order}
use Rattle.smi_protocol.specs.declared.Order.TheVariants as order
use Rattle.smi_law.proofs.GrantKinds.{put_here}
use Rattle.smi_law.proofs.Moves.{at_put}
use Rattle.smi_law.proofs.StepKinds.{take_new, drop_new, understood}
use Rattle.smi_law.proofs.Viewed.{keeper_home}

-- no command runs
abbrev pub IsNoRun : Entry → Type 0
IsNoRun (Ran d e n c) = ⊥
IsNoRun (Booted s b) = Unit {0}
IsNoRun (Granted d e who) = Unit {0}
IsNoRun (Freed d e) = Unit {0}
IsNoRun (Ordered o d e n c) = Unit {0}
IsNoRun (Learned who d e) = Unit {0}
IsNoRun (LetGo who d e) = Unit {0}
IsNoRun (InMode d m) = Unit {0}
IsNoRun (Settled d e n x) = Unit {0}
IsNoRun (Showed s q) = Unit {0}
IsNoRun (Passed q) = Unit {0}
IsNoRun (Told o t) = Unit {0}

abbrev pub NoRuns : List Entry → Type 0
NoRuns [] = Unit {0}
NoRuns (x ∷ more) = IsNoRun x × NoRuns more

pub none_both : (xs ys : List Entry) → NoRuns xs → NoRuns ys → NoRuns (xs ++ ys)
none_both [] ys a b = b
none_both (x ∷ xs) ys a b = (a.0, none_both xs ys a.1 b)

-- the same commands have run
pub record SameLast (r q : Standing) : Type 0 where
  pub epoch : q.epoch ≡ r.epoch
  pub last : q.last ≡ r.last

pub same_last : (r : Standing) → SameLast r r
same_last r = record { epoch = refl; last = refl }

abbrev pub OthersLast : Grants → Grants → ℕ → Type 0
OthersLast g k x = (d : ℕ) → (d ≡ x → ⊥) → SameLast (g.records d) (k.records d)

-- `came` is what has come
pub data RunStep (h : Hierarchy) (number : ℕ) (came : Body → Type 0) (g k : Grants) : List Entry → Type 0 where
  no_run : (new : List Entry) → NoRuns new → ((d : ℕ) → SameLast (g.records d) (k.records d))
      → RunStep h number came g k new
  hands : (new : List Entry) → NoRuns new → (x : ℕ) (who : Holder) → home h x ≡ number
      → k.records x ≡ handed (g.records x) who → OthersLast g k x → RunStep h number came g k new
  next_run : (x n : ℕ) (c : Command) (more : List Entry)
      → came (body.Run x (g.records x).holder (g.records x).epoch n c) → NoRuns more → home h x ≡ number
      → (k.records x).epoch ≡ (g.records x).epoch → (k.records x).last ≡ n → n ≡ (g.records x).last + 1
      → OthersLast g k x
      → RunStep h number came g k (Ran x (g.records x).epoch n c ∷ more)

nothing : (h : Hierarchy) (number : ℕ) (came : Body → Type 0) (g : Grants) → RunStep h number came g g []
nothing h number came g = no_run [] tt (λ d. same_last (g.records d))

others_put : (g : Grants) (x : ℕ) (r : Standing) (d : ℕ) → (d ≡ x → ⊥) → SameLast (g.records d) (put g.records x r d)
others_put g x r d o = at_put (λ z. SameLast (g.records d) z) g.records x r d (λ i. absurd (o i))
    (same_last (g.records d))

take_run : (h : Hierarchy) (number : ℕ) (came : Body → Type 0) (g : Grants) (from x : ℕ) (who : Holder) (s : ℕ)
    → is_keeper h number x ≡ true → (v : Verdict) → take_after (g.records x) who s ≡ v
    → RunStep h number came g (decided h number g from x (Granted x ((g.records x).epoch + 1) who) v).grants
    (decided h number g from x (Granted x ((g.records x).epoch + 1) who) v).entries
take_run h number came g from x who s here (New r) is =
    hands (Granted x ((g.records x).epoch + 1) who ∷ []) (tt, tt) x who (keeper_home _ number here)
    (put_here g.records x r ∙ take_new (g.records x) who s r is) (others_put g x r)
take_run h number came g from x who s here Same is = nothing h number came g

drop_run : (h : Hierarchy) (number : ℕ) (came : Body → Type 0) (g : Grants) (from x : ℕ) (who : Holder) (e : ℕ)
    → is_keeper h number x ≡ true → (v : Verdict) → drop_after (g.records x) who e ≡ v
    → RunStep h number came g (decided h number g from x (Freed x ((g.records x).epoch + 1)) v).grants
    (decided h number g from x (Freed x ((g.records x).epoch + 1)) v).entries
drop_run h number came g from x who e here (New r) is =
    hands (Freed x ((g.records x).epoch + 1) ∷ []) (tt, tt) x Free (keeper_home _ number here)
    (put_here g.records x r ∙ (drop_new (g.records x) who e r is).is) (others_put g x r)
drop_run h number came g from x who e here Same is = nothing h number came g

-- A command runs.

let_go_none : (d x : ℕ) (change : ChildChange) → NoRuns (let_go_of d x change)
let_go_none d x (Stays code) = tt
let_go_none d x (Relinked (Out k)) = tt
let_go_none d x (Relinked (Taking s)) = tt
let_go_none d x (Relinked (Held e n p)) = tt
let_go_none d x (Relinked (Dropping e)) = (tt, tt)
let_go_none d x (ComesInto m) = tt

mode_none : (x : ℕ) (change : ChildChange) → NoRuns (mode_changed x change)
mode_none x (Stays code) = tt
mode_none x (Relinked l) = tt
mode_none x (ComesInto m) = (tt, tt)

at_none : (h : Hierarchy) (g : Grants) (d : ℕ) (c : Command) (t : ℕ) → NoRuns (entries_at h g d c t)
at_none h g d c t = elim (either (is_parent h t d)) [
  | inl i ↦ rw i (none_both (let_go_of d t (change_of h g d c t)) (mode_changed t (change_of h g d c t))
      (let_go_none d t (change_of h g d c t)) (mode_none t (change_of h g d c t)))
  | inr f ↦ rw f tt
]

child_none : (h : Hierarchy) (g : Grants) (d : ℕ) (c : Command) → NoRuns (child_entries h g d c)
child_none h g d (Do a) = tt
child_none h g d (Include t) = at_none h g d (Include t) t
child_none h g d (Exclude t) = at_none h g d (Exclude t) t
child_none h g d (Manual t) = at_none h g d (Manual t) t
child_none h g d (Ignore t) = at_none h g d (Ignore t) t

settled_none : (d e n : ℕ) (busy : Bool) (own : ℕ) → NoRuns (settled_at_once d e n busy own)
settled_none d e n true own = tt
settled_none d e n false own = (tt, tt)

started_epoch : (r : Standing) (busy : Bool) (own : ℕ) → (started r busy own).epoch ≡ r.epoch
started_epoch r true own = refl
started_epoch r false own = refl

started_last : (r : Standing) (busy : Bool) (own : ℕ) → (started r busy own).last ≡ r.last + 1
started_last r true own = refl
started_last r false own = refl

run_run : (h : Hierarchy) (number : ℕ) (came : Body → Type 0) (g : Grants) (from x : ℕ) (who : Holder) (e n : ℕ)
    (c : Command) → came (body.Run x who e n c) → is_keeper h number x ≡ true
    → RunStep h number came g (run_comes h number g from x who e n c).grants
    (run_comes h number g from x who e n c).entries
run_run h number came g from x who e n c cause here = elim (either (admits (g.records x) who e n)) [
  | inl t ↦
      let a = admitted (g.records x) who e n t in
      rw t (subst (λ z. RunStep h number came g (ran h number g from x e n c busy own).grants
      (Ran x z n c ∷ child_entries h g x c ++ settled_at_once x e n busy own)) a.epoch
      (next_run x n c (child_entries h g x c ++ settled_at_once x e n busy own)
      (subst (λ z. came (body.Run x z (g.records x).epoch n c)) (sym a.holder)
      (subst (λ z. came (body.Run x who z n c)) (sym a.epoch) cause))
      (none_both (child_entries h g x c) (settled_at_once x e n busy own) (child_none h g x c)
      (settled_none x e n busy own))
      (keeper_home _ number here)
      (ap (λ (r : Standing). r.epoch) (put_here g.records x (started (g.records x) busy own))
      ∙ started_epoch (g.records x) busy own)
      (ap (λ (r : Standing). r.last) (put_here g.records x (started (g.records x) busy own))
      ∙ started_last (g.records x) busy own ∙ sym a.next)
      a.next
      (others_put g x (started (g.records x) busy own))))
  | inr f ↦ rw f (nothing h number came g)
]
  where
    busy : Bool
    busy = waits_for_children h (commanded h g x c) x

    own : ℕ
    own = own_code h g x c

-- A record is told.

learned_none : (who : Holder) (d : ℕ) (l new : Link) → NoRuns (learned who d l new)
learned_none who d (Out k) new = tt
learned_none who d (Held e n p) new = tt
learned_none who d (Dropping e) new = tt
learned_none who d (Taking s) (Out k) = tt
learned_none who d (Taking s) (Taking u) = tt
learned_none who d (Taking s) (Held e n p) = (tt, tt)
learned_none who d (Taking s) (Dropping e) = tt

ended_last : (b : Bool) (on : Grants) (p d : ℕ) → SameLast (on.records d) ((ended b on p).records d)
ended_last true on p d =
    at_put (λ z. SameLast (on.records d) z) on.records p (settled (on.records p) (on.gathered p)) d
    (λ i. subst (λ z. SameLast (on.records z) (settled (on.records p) (on.gathered p))) (sym i)
    (record { epoch = refl; last = refl }))
    (same_last (on.records d))
ended_last false on p d = same_last (on.records d)

ended_none : (b : Bool) (on : Grants) (p : ℕ) → NoRuns (ended_entries b on p)
ended_none true on p = (tt, tt)
ended_none false on p = tt

tell_run : (h : Hierarchy) (number : ℕ) (came : Body → Type 0) (g : Grants) (x : ℕ) (r : Standing)
    (o : Option Holder) → RunStep h number came g (told_to h number g x r o).grants (told_to h number g x r o).entries
tell_run h number came g x r None = nothing h number came g
tell_run h number came g x r (Some Free) = nothing h number came g
tell_run h number came g x r (Some (Operator o)) =
    no_run (told_to h number g x r (Some (Operator o))).entries
    (learned_none (Operator o) x (g.links (Operator o) x) (told_link (g.links (Operator o) x) (Operator o) r))
    (λ d. same_last (g.records d))
tell_run h number came g x r (Some (Domain p)) =
    let on = parent_heard g p x r in
    no_run (told_to h number g x r (Some (Domain p))).entries
    (none_both (learned (Domain p) x (g.links (Domain p) x) (on.links (Domain p) x))
    (ended_entries (ends h on p) on p) (learned_none (Domain p) x (g.links (Domain p) x) (on.links (Domain p) x))
    (ended_none (ends h on p) on p))
    (ended_last (ends h on p) on p)

-- Orders.

order_none : (o d : ℕ) (c : Option Command) (l : Link) → NoRuns (order_entries o d c l)
order_none o d (Some c) (Out k) = tt
order_none o d (Some c) (Taking s) = tt
order_none o d (Some c) (Held e n p) = (tt, tt)
order_none o d (Some c) (Dropping e) = tt
order_none o d None (Out k) = tt
order_none o d None (Taking s) = tt
order_none o d None (Held e n p) = tt
order_none o d None (Dropping e) = (tt, tt)

obeyed_run : (h : Hierarchy) (number : ℕ) (came : Body → Type 0) (g : Grants) (o x : ℕ) (c : Option Command)
    (res : Result Link ℕ) → RunStep h number came g (obeyed h number g o x c res).grants
    (obeyed h number g o x c res).entries
obeyed_run h number came g o x c (Ok l) = no_run (order_entries o x c l) (order_none o x c l)
    (λ d. same_last (g.records d))
obeyed_run h number came g o x c (Err code) = nothing h number came g

order_run : (h : Hierarchy) (number : ℕ) (came : Body → Type 0) (g : Grants) (o : ℕ) (what : Order)
    → RunStep h number came g (order_comes h number g o what).grants (order_comes h number g o what).entries
order_run h number came g o (order.Take x) = obeyed_run h number came g o x None (take_begun (g.links (Operator o) x))
order_run h number came g o (order.Drop x) = obeyed_run h number came g o x None (drop_begun (g.links (Operator o) x))
order_run h number came g o (order.Do x a) =
    obeyed_run h number came g o x (Some (Do a)) (command_issued (g.links (Operator o) x) (Do a))
order_run h number came g o (order.Include x t) =
    obeyed_run h number came g o x (Some (Include t)) (command_issued (g.links (Operator o) x) (Include t))
order_run h number came g o (order.Exclude x t) =
    obeyed_run h number came g o x (Some (Exclude t)) (command_issued (g.links (Operator o) x) (Exclude t))
order_run h number came g o (order.Manual x t) =
    obeyed_run h number came g o x (Some (Manual t)) (command_issued (g.links (Operator o) x) (Manual t))
order_run h number came g o (order.Ignore x t) =
    obeyed_run h number came g o x (Some (Ignore t)) (command_issued (g.links (Operator o) x) (Ignore t))
order_run h number came g o (order.Ask x) = nothing h number came g
order_run h number came g o (order.Watch x) = nothing h number came g
order_run h number came g o (order.Unwatch x) = nothing h number came g
order_run h number came g o (order.Report device s) = nothing h number came g

-- Anything that is not refused.

body_run : (h : Hierarchy) (number : ℕ) (came : Body → Type 0) (g : Grants) (from : ℕ) (b : Body) → came b
    → is_body_of h from number b ≡ true → RunStep h number came g (datagram_comes h number g from b).grants
    (datagram_comes h number g from b).entries
body_run h number came g from (body.Ask x) cause ok = nothing h number came g
body_run h number came g from (body.Take x who s) cause ok =
    take_run h number came g from x who s (and_parts (is_keeper h number x) _ ok).0
    (take_after (g.records x) who s) refl
body_run h number came g from (body.Drop x who e) cause ok =
    drop_run h number came g from x who e (and_parts (is_keeper h number x) _ ok).0
    (drop_after (g.records x) who e) refl
body_run h number came g from (body.Run x who e n c) cause ok =
    run_run h number came g from x who e n c cause (and_parts (is_keeper h number x) _ ok).0
body_run h number came g from (body.Tell x r) cause ok = tell_run h number came g x r (listener h number g x r)
body_run h number came g from (body.Watch x echo) cause ok = nothing h number came g
body_run h number came g from (body.State x echo v s) cause ok = nothing h number came g
body_run h number came g from (body.Unwatch x echo) cause ok = nothing h number came g

-- what has come: the body of a datagram
abbrev pub HasCome : Happening → Body → Type 0
HasCome (Comes m) b = m.body ≡ b
HasCome (Orders o what) b = ⊥
HasCome (Reports device s) b = ⊥
HasCome Ticks b = ⊥

pub step_run : (h : Hierarchy) (number : ℕ) (g : Grants) (what : Happening) → refusal_of h number g what ≡ None
    → RunStep h number (HasCome what) g (grant_step h number g what).grants (grant_step h number g what).entries
step_run h number g (Comes m) none = body_run h number (HasCome (Comes m)) g m.from m.body refl
    (understood h number m none)
step_run h number g (Orders o what) none = order_run h number (HasCome (Orders o what)) g o what
step_run h number g (Reports device s) none = nothing h number (HasCome (Reports device s)) g
step_run h number g Ticks none = nothing h number (HasCome Ticks) g
