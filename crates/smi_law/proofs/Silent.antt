-- What the save of a step leaves in the trace is about grants alone.
use Rattle.std.proofs.Common.{ℕ, Bool, true, false, List, [], ◌∷◌, inl, inr, refl}
use Rattle.std.specs.Prelude.{◌≡◌, ◌+◌, ◌++◌, Option, Some, None, Result, Ok, Err}
use Rattle.smi_grant.specs.declared.Command.{Command}
use Rattle.smi_grant.specs.declared.Command.TheVariants.{Do, Include, Exclude, Manual, Ignore}
use Rattle.smi_grant.specs.declared.Holder.{Holder}
use Rattle.smi_grant.specs.declared.Holder.TheVariants.{Free, Operator, Domain}
use Rattle.smi_grant.specs.declared.Verdict.{Verdict}
use Rattle.smi_grant.specs.declared.Verdict.TheVariants.{New, Same}
use Rattle.smi_grant.specs.Keeper.{take_after, drop_after, admits}
use Rattle.smi_grant.specs.Record.{Standing}
use Rattle.smi_message.specs.declared.Body.{Body}
use Rattle.smi_message.specs.declared.Body.TheVariants as body
use Rattle.smi_tree.specs.Hierarchy.{Hierarchy}
use Rattle.smi_command.specs.declared.Link.{Link}
use Rattle.smi_command.specs.declared.Link.TheVariants.{Out, Taking, Held, Dropping}
use Rattle.smi_command.specs.Hearing.{told_link}
use Rattle.smi_command.specs.Order.{take_begun, drop_begun, command_issued}
use Rattle.smi_grant.proofs.Holders.{either}
use Rattle.smi_protocol.specs.Children.{own_code}
use Rattle.smi_protocol.specs.Display.{Station}
use Rattle.smi_protocol.specs.Grants.{Grants}
use Rattle.smi_protocol.specs.GrantStep.{waits_for_children}
use Rattle.smi_protocol.specs.GrantsOf.{datagram_comes, grant_step}
use Rattle.smi_protocol.specs.Happening.{Happening, Comes, Orders, Reports, Ticks}
use Rattle.smi_protocol.specs.Hearing.{listener, learned, parent_heard, ends, ended, ended_entries, told_to}
use Rattle.smi_protocol.specs.Keeping.{decided, commanded, child_entries, settled_at_once, run_comes}
use Rattle.smi_protocol.specs.Ordering.{order_entries, obeyed, order_comes}
use Rattle.smi_protocol.specs.Step.{answered_or}
use Rattle.smi_protocol.specs.declared.Entry.{Entry}
use Rattle.smi_protocol.specs.declared.Entry.TheVariants.{Booted, Granted, Freed, Ordered, Ran, Learned, LetGo}
use Rattle.smi_protocol.specs.declared.Entry.TheVariants.{InMode, Settled, Showed, Passed, Told}
use Rattle.smi_protocol.specs.declared.Order.{Order}
use Rattle.smi_protocol.specs.declared.Order.TheVariants as order
use Rattle.smi_law.proofs.WorkRuns.{AllMild, child_mild}

-- the entry says nothing of states, and of no start
abbrev pub IsSilent : Entry → Type 0
IsSilent (Booted s b) = ⊥
IsSilent (Showed s v) = ⊥
IsSilent (Passed v) = ⊥
IsSilent (Granted x e who) = Unit {0}
IsSilent (Freed x e) = Unit {0}
IsSilent (Ordered o x e n c) = Unit {0}
IsSilent (Ran x e n c) = Unit {0}
IsSilent (Learned who x e) = Unit {0}
IsSilent (LetGo who x e) = Unit {0}
IsSilent (InMode x m) = Unit {0}
IsSilent (Settled x e n code) = Unit {0}
IsSilent (Told o t) = Unit {0}

abbrev pub AllSilent : List Entry → Type 0
AllSilent [] = Unit {0}
AllSilent (y ∷ more) = IsSilent y × AllSilent more

pub silent_both : (xs ys : List Entry) → AllSilent xs → AllSilent ys → AllSilent (xs ++ ys)
silent_both [] ys a b = b
silent_both (x ∷ xs) ys a b = (a.0, silent_both xs ys a.1 b)

mild_silent : (new : List Entry) → AllMild new → AllSilent new
mild_silent [] m = tt
mild_silent (LetGo who x e ∷ new) m = (tt, mild_silent new m.1)
mild_silent (InMode x k ∷ new) m = (tt, mild_silent new m.1)
mild_silent (Booted s b ∷ new) m = absurd m.0
mild_silent (Showed s v ∷ new) m = absurd m.0
mild_silent (Passed v ∷ new) m = absurd m.0
mild_silent (Granted x e who ∷ new) m = absurd m.0
mild_silent (Freed x e ∷ new) m = absurd m.0
mild_silent (Ordered o x e n c ∷ new) m = absurd m.0
mild_silent (Ran x e n c ∷ new) m = absurd m.0
mild_silent (Learned who x e ∷ new) m = absurd m.0
mild_silent (Settled x e n code ∷ new) m = absurd m.0
mild_silent (Told o t ∷ new) m = absurd m.0

-- What a step leaves, and that the boot stays.

-- the grants have the same boot, and the entries are silent
pub record Silently (g k : Grants) (new : List Entry) : Type 0 where
  pub boot : k.boot ≡ g.boot
  pub entries : AllSilent new

still : (g : Grants) → Silently g g []
still g = record { boot = refl; entries = tt }

decided_silent : (h : Hierarchy) (number : ℕ) (g : Grants) (from x : ℕ) (note : Entry) → IsSilent note
    → (v : Verdict) → Silently g (decided h number g from x note v).grants (decided h number g from x note v).entries
decided_silent h number g from x note calm (New r) = record { boot = refl; entries = (calm, tt) }
decided_silent h number g from x note calm Same = still g

settled_silent : (d e n : ℕ) (busy : Bool) (own : ℕ) → AllSilent (settled_at_once d e n busy own)
settled_silent d e n true own = tt
settled_silent d e n false own = (tt, tt)

run_silent : (h : Hierarchy) (number : ℕ) (g : Grants) (from x : ℕ) (who : Holder) (e n : ℕ) (c : Command)
    → Silently g (run_comes h number g from x who e n c).grants (run_comes h number g from x who e n c).entries
run_silent h number g from x who e n c = elim (either (admits (g.records x) who e n)) [
  | inl t ↦ rw t
      (record {
        boot = refl;
        entries = (
          tt,
          silent_both (child_entries h g x c) _ (mild_silent (child_entries h g x c) (child_mild h g x c))
              (settled_silent x e n (waits_for_children h (commanded h g x c) x) (own_code h g x c)),
        );
      })
  | inr f ↦ rw f (still g)
]

learned_silent : (who : Holder) (d : ℕ) (l k : Link) → AllSilent (learned who d l k)
learned_silent who d (Out n) k = tt
learned_silent who d (Held e n p) k = tt
learned_silent who d (Dropping e) k = tt
learned_silent who d (Taking s) (Out n) = tt
learned_silent who d (Taking s) (Taking u) = tt
learned_silent who d (Taking s) (Held e n p) = (tt, tt)
learned_silent who d (Taking s) (Dropping e) = tt

ended_silent : (b : Bool) (on : Grants) (p : ℕ) → Silently on (ended b on p) (ended_entries b on p)
ended_silent true on p = record { boot = refl; entries = (tt, tt) }
ended_silent false on p = record { boot = refl; entries = tt }

tell_silent : (h : Hierarchy) (number : ℕ) (g : Grants) (d : ℕ) (r : Standing) (o : Option Holder)
    → Silently g (told_to h number g d r o).grants (told_to h number g d r o).entries
tell_silent h number g d r None = still g
tell_silent h number g d r (Some Free) = still g
tell_silent h number g d r (Some (Operator o)) =
    record {
      boot = refl;
      entries = learned_silent (Operator o) d (g.links (Operator o) d)
          (told_link (g.links (Operator o) d) (Operator o) r);
    }
tell_silent h number g d r (Some (Domain p)) =
    let on = parent_heard g p d r in
    let e = ended_silent (ends h on p) on p in
    record {
      boot = e.boot;
      entries = silent_both
          (learned (Domain p) d (g.links (Domain p) d) (on.links (Domain p) d)) (ended_entries (ends h on p) on p)
          (learned_silent (Domain p) d (g.links (Domain p) d) (on.links (Domain p) d)) e.entries;
    }

entries_silent : (o d : ℕ) (c : Option Command) (l : Link) → AllSilent (order_entries o d c l)
entries_silent o d (Some c) (Out k) = tt
entries_silent o d (Some c) (Taking s) = tt
entries_silent o d (Some c) (Held e n p) = (tt, tt)
entries_silent o d (Some c) (Dropping e) = tt
entries_silent o d None (Out k) = tt
entries_silent o d None (Taking s) = tt
entries_silent o d None (Held e n p) = tt
entries_silent o d None (Dropping e) = (tt, tt)

obeyed_silent : (h : Hierarchy) (number : ℕ) (g : Grants) (o x : ℕ) (c : Option Command) (res : Result Link ℕ)
    → Silently g (obeyed h number g o x c res).grants (obeyed h number g o x c res).entries
obeyed_silent h number g o x c (Ok l) = record { boot = refl; entries = entries_silent o x c l }
obeyed_silent h number g o x c (Err code) = still g

order_silent : (h : Hierarchy) (number : ℕ) (g : Grants) (o : ℕ) (what : Order)
    → Silently g (order_comes h number g o what).grants (order_comes h number g o what).entries
order_silent h number g o (order.Take x) = obeyed_silent h number g o x None (take_begun (g.links (Operator o) x))
order_silent h number g o (order.Drop x) = obeyed_silent h number g o x None (drop_begun (g.links (Operator o) x))
order_silent h number g o (order.Do x a) =
    obeyed_silent h number g o x (Some (Do a)) (command_issued (g.links (Operator o) x) (Do a))
order_silent h number g o (order.Include x t) =
    obeyed_silent h number g o x (Some (Include t)) (command_issued (g.links (Operator o) x) (Include t))
order_silent h number g o (order.Exclude x t) =
    obeyed_silent h number g o x (Some (Exclude t)) (command_issued (g.links (Operator o) x) (Exclude t))
order_silent h number g o (order.Manual x t) =
    obeyed_silent h number g o x (Some (Manual t)) (command_issued (g.links (Operator o) x) (Manual t))
order_silent h number g o (order.Ignore x t) =
    obeyed_silent h number g o x (Some (Ignore t)) (command_issued (g.links (Operator o) x) (Ignore t))
order_silent h number g o (order.Ask x) = still g
order_silent h number g o (order.Watch x) = still g
order_silent h number g o (order.Unwatch x) = still g
order_silent h number g o (order.Report device s) = still g

body_silent : (h : Hierarchy) (number : ℕ) (g : Grants) (from : ℕ) (b : Body)
    → Silently g (datagram_comes h number g from b).grants (datagram_comes h number g from b).entries
body_silent h number g from (body.Ask x) = still g
body_silent h number g from (body.Take x who s) =
    decided_silent h number g from x (Granted x ((g.records x).epoch + 1) who) tt (take_after (g.records x) who s)
body_silent h number g from (body.Drop x who e) =
    decided_silent h number g from x (Freed x ((g.records x).epoch + 1)) tt (drop_after (g.records x) who e)
body_silent h number g from (body.Run x who e n c) = run_silent h number g from x who e n c
body_silent h number g from (body.Tell x r) = tell_silent h number g x r (listener h number g x r)
body_silent h number g from (body.Watch x echo) = still g
body_silent h number g from (body.State x echo v s) = still g
body_silent h number g from (body.Unwatch x echo) = still g

pub step_silent : (h : Hierarchy) (number : ℕ) (g : Grants) (what : Happening)
    → Silently g (grant_step h number g what).grants (grant_step h number g what).entries
step_silent h number g (Comes m) = body_silent h number g m.from m.body
step_silent h number g (Orders o what) = order_silent h number g o what
step_silent h number g (Reports device s) = still g
step_silent h number g Ticks = still g

pub kept_silent : (h : Hierarchy) (number : ℕ) (s : Station) (what : Happening) (o : Option ℕ)
    → Silently s.grants (answered_or h number s what o).station.grants (answered_or h number s what o).kept
kept_silent h number s what (Some code) = still s.grants
kept_silent h number s what None = step_silent h number s.grants what
