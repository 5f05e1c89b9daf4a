-- One item leaves what an operator waits for, less what the operator is told.
use Rattle.std.proofs.Common.{ℕ, ◌≡◌, Bool, true, false, List, [], ◌∷◌, inl, inr, refl, sym, ap}
use Rattle.std.proofs.Common.{◌∙◌, subst}
use Rattle.std.specs.Prelude.{◌==◌, ◌&&◌, ◌++◌, nat_lt, not, if◌then◌else◌, filter, map, Option, Some, None}
use Rattle.std.proofs.lemmas.Bool.{and_from, and_parts, eq-eqb, eqb-true}
use Rattle.smi_grant.specs.declared.Command.{Command}
use Rattle.smi_grant.specs.declared.Holder.{Holder}
use Rattle.smi_grant.specs.declared.Holder.TheVariants.{Free, Operator, Domain}
use Rattle.smi_grant.specs.declared.Shown.{Shown}
use Rattle.smi_grant.specs.declared.Verdict.{Verdict}
use Rattle.smi_grant.specs.declared.Verdict.TheVariants.{New, Same}
use Rattle.smi_grant.specs.Keeper.{admits, drop_after, take_after}
use Rattle.smi_grant.specs.Record.{Standing}
use Rattle.smi_message.specs.declared.Body.{Body}
use Rattle.smi_message.specs.declared.Body.TheVariants as body
use Rattle.smi_message.specs.Message.{Message}
use Rattle.smi_tree.specs.Hierarchy.{Hierarchy}
use Rattle.smi_tree.specs.Lookups.{operators_of}
use Rattle.smi_view.specs.declared.Acceptance.{Acceptance}
use Rattle.smi_view.specs.declared.Acceptance.TheVariants.{Accepted, NotNewer, OtherBoot}
use Rattle.smi_view.specs.Accepting.{acceptance}
use Rattle.smi_command.specs.declared.Due.TheVariants.{Take, Drop, Run}
use Rattle.smi_command.specs.declared.Link.{Link}
use Rattle.smi_command.specs.declared.Link.TheVariants.{Out, Taking, Held, Dropping}
use Rattle.smi_command.specs.Hearing.{told_heard, told_link}
use Rattle.smi_command.proofs.Heard.{choose}
use Rattle.smi_grant.proofs.Holders.{either}
use Rattle.smi_protocol.proofs.Tables.{at_put_link, put_link_here}
use Rattle.smi_protocol.specs.Children.{own_code}
use Rattle.smi_protocol.specs.Display.{Display}
use Rattle.smi_protocol.specs.Grants.{Grants, put_link}
use Rattle.smi_protocol.specs.GrantsOf.{datagram_comes}
use Rattle.smi_protocol.specs.GrantStep.{GrantStep, waits_for_children}
use Rattle.smi_protocol.specs.Happening.{answer_asked, told_entries}
use Rattle.smi_protocol.specs.Hearing.{ended_entries, ends, learned, listener, parent_heard}
use Rattle.smi_protocol.specs.Hearing.{settlements_in, answers_of, told_to}
use Rattle.smi_protocol.specs.Keeping.{child_entries, commanded, decided, run_comes, settled_at_once}
use Rattle.smi_protocol.specs.Step.{body_noticed}
use Rattle.smi_protocol.specs.Watching.{Notice, has_asked, is_watched, showed_if, told_state, unnoticed}
use Rattle.smi_protocol.specs.declared.Entry.{Entry}
use Rattle.smi_protocol.specs.declared.Entry.TheVariants.{Booted, Granted, Freed, Ordered, Ran, Learned, LetGo, InMode}
use Rattle.smi_protocol.specs.declared.Entry.TheVariants.{Settled, Showed, Passed}
use Rattle.smi_protocol.specs.declared.Entry.TheVariants as entry
use Rattle.smi_law.proofs.WorkRuns.{AllMild, child_mild}
use Rattle.smi_protocol.specs.declared.order.Told.{Told}
use Rattle.smi_law.specs.World.{Among}
use Rattle.smi_law.specs.Answered.{Hears, hears, nothing, told_about}
use Rattle.smi_law.proofs.Answering.{aside_told, all_about, link_aside}
use Rattle.smi_law.proofs.Asked.{decides}
use Rattle.smi_law.proofs.Hears.{ended_links}

-- Entries of which none is told.

abbrev Untold : Entry → Type 0
Untold (entry.Told o t) = ⊥
Untold _ = Unit {0}

abbrev AllUntold : List Entry → Type 0
AllUntold [] = Unit {0}
AllUntold (x ∷ more) = Untold x × AllUntold more

pub nothing_told : (o d : ℕ) (xs : List Entry) → AllUntold xs → told_about o d xs ≡ []
nothing_told o d [] a = refl
nothing_told o d (Booted s b ∷ xs) a = nothing_told o d xs a.1
nothing_told o d (Granted x e who ∷ xs) a = nothing_told o d xs a.1
nothing_told o d (Freed x e ∷ xs) a = nothing_told o d xs a.1
nothing_told o d (Ordered p x e n c ∷ xs) a = nothing_told o d xs a.1
nothing_told o d (Ran x e n c ∷ xs) a = nothing_told o d xs a.1
nothing_told o d (Learned who x e ∷ xs) a = nothing_told o d xs a.1
nothing_told o d (LetGo who x e ∷ xs) a = nothing_told o d xs a.1
nothing_told o d (InMode x m ∷ xs) a = nothing_told o d xs a.1
nothing_told o d (Settled x e n code ∷ xs) a = nothing_told o d xs a.1
nothing_told o d (Showed s v ∷ xs) a = nothing_told o d xs a.1
nothing_told o d (Passed v ∷ xs) a = nothing_told o d xs a.1
nothing_told o d (entry.Told p t ∷ xs) a = absurd a.0

untold_both : (xs ys : List Entry) → AllUntold xs → AllUntold ys → AllUntold (xs ++ ys)
untold_both [] ys a b = b
untold_both (x ∷ xs) ys a b = (a.0, untold_both xs ys a.1 b)

mild_untold : (xs : List Entry) → AllMild xs → AllUntold xs
mild_untold [] m = tt
mild_untold (LetGo who x e ∷ xs) m = (tt, mild_untold xs m.1)
mild_untold (InMode x k ∷ xs) m = (tt, mild_untold xs m.1)
mild_untold (Booted s b ∷ xs) m = absurd m.0
mild_untold (Showed s v ∷ xs) m = absurd m.0
mild_untold (Passed v ∷ xs) m = absurd m.0
mild_untold (Granted x e who ∷ xs) m = absurd m.0
mild_untold (Freed x e ∷ xs) m = absurd m.0
mild_untold (Ordered o x e n c ∷ xs) m = absurd m.0
mild_untold (Ran x e n c ∷ xs) m = absurd m.0
mild_untold (Learned who x e ∷ xs) m = absurd m.0
mild_untold (Settled x e n code ∷ xs) m = absurd m.0
mild_untold (entry.Told o t ∷ xs) m = absurd m.0

-- the notes that a save leaves of grants
decided_untold : (h : Hierarchy) (number : ℕ) (g : Grants) (from d : ℕ) (note : Entry) (v : Verdict) → Untold note
    → AllUntold (decided h number g from d note v).entries
decided_untold h number g from d note (New r) u = (u, tt)
decided_untold h number g from d note Same u = tt

run_untold : (h : Hierarchy) (number : ℕ) (g : Grants) (from x : ℕ) (who : Holder) (e n : ℕ) (c : Command)
    → AllUntold (run_comes h number g from x who e n c).entries
run_untold h number g from x who e n c = elim (either (admits (g.records x) who e n)) [
  | inl t ↦ rw t (
    tt,
    untold_both (child_entries h g x c) _ (mild_untold (child_entries h g x c) (child_mild h g x c))
        (ended_at_once (waits_for_children h (commanded h g x c) x) (own_code h g x c)),
  )
  | inr f ↦ rw f tt
]
  where
    ended_at_once : (busy : Bool) (own : ℕ) → AllUntold (settled_at_once x e n busy own)
    ended_at_once true own = tt
    ended_at_once false own = (tt, tt)

learned_untold : (who : Holder) (d : ℕ) (l k : Link) → AllUntold (learned who d l k)
learned_untold who d (Out n) k = tt
learned_untold who d (Held e n p) k = tt
learned_untold who d (Dropping e) k = tt
learned_untold who d (Taking s) (Out n) = tt
learned_untold who d (Taking s) (Taking u) = tt
learned_untold who d (Taking s) (Held e n p) = (tt, tt)
learned_untold who d (Taking s) (Dropping e) = tt

ended_untold : (b : Bool) (on : Grants) (p : ℕ) → AllUntold (ended_entries b on p)
ended_untold true on p = (tt, tt)
ended_untold false on p = tt

tell_untold : (h : Hierarchy) (number : ℕ) (g : Grants) (d : ℕ) (r : Standing) (o : Option Holder)
    → AllUntold (told_to h number g d r o).entries
tell_untold h number g d r None = tt
tell_untold h number g d r (Some Free) = tt
tell_untold h number g d r (Some (Operator o)) =
    learned_untold (Operator o) d (g.links (Operator o) d) (told_link (g.links (Operator o) d) (Operator o) r)
tell_untold h number g d r (Some (Domain p)) =
    let on = parent_heard g p d r in
    untold_both (learned (Domain p) d (g.links (Domain p) d) (on.links (Domain p) d)) (ended_entries
    (ends h on p) on p)
    (learned_untold (Domain p) d (g.links (Domain p) d) (on.links (Domain p) d)) (ended_untold (ends h on p) on p)

pub body_untold : (h : Hierarchy) (number : ℕ) (g : Grants) (from : ℕ) (b : Body)
    → AllUntold (datagram_comes h number g from b).entries
body_untold h number g from (body.Ask x) = tt
body_untold h number g from (body.Take x who s) =
    decided_untold h number g from x _ (take_after (g.records x) who s) tt
body_untold h number g from (body.Drop x who e) =
    decided_untold h number g from x _ (drop_after (g.records x) who e) tt
body_untold h number g from (body.Run x who e n c) = run_untold h number g from x who e n c
body_untold h number g from (body.Tell x r) = tell_untold h number g x r (listener h number g x r)
body_untold h number g from (body.Watch x echo) = tt
body_untold h number g from (body.State x echo v s) = tt
body_untold h number g from (body.Unwatch x echo) = tt

-- What the display answers is no order about a link.

asked_told : (o d x : ℕ) (r : Standing) (xs : List ℕ)
    → told_about o d (told_entries (map (λ p. answer_asked p x r) xs)) ≡ []
asked_told o d x r [] = refl
asked_told o d x r (p ∷ xs) = by (p == o) (asked_told o d x r xs)
  where
    by : (b : Bool) → told_about o d (told_entries (map (λ p. answer_asked p x r) xs)) ≡ []
        → (if b && false then (answer_asked p x r).told ∷ told_about o d (told_entries (map
        (λ p. answer_asked p x r) xs))
        else told_about o d (told_entries (map (λ p. answer_asked p x r) xs))) ≡ []
    by true rest = rest
    by false rest = rest

abbrev Silent : ℕ → ℕ → Notice → Type 0
Silent o d n = told_about o d (told_entries n.answers) ≡ []

shown_silent : (o d : ℕ) (s : Display) (v : Shown) (a : Acceptance) → Silent o d (showed_if s v a)
shown_silent o d s v Accepted = refl
shown_silent o d s v OtherBoot = refl
shown_silent o d s v NotNewer = refl

pub notice_silent : (h : Hierarchy) (number boot o d : ℕ) (s : Display) (from : ℕ) (b : Body)
    → Silent o d (body_noticed h number boot s from b)
notice_silent h number boot o d s from (body.Ask x) = refl
notice_silent h number boot o d s from (body.Take x who seen) = refl
notice_silent h number boot o d s from (body.Drop x who e) = refl
notice_silent h number boot o d s from (body.Run x who e n c) = refl
notice_silent h number boot o d s from (body.Tell x r) = asked_told o d x r (filter (has_asked s x)
    (operators_of h number))
notice_silent h number boot o d s from (body.Watch x echo) =
    choose (Silent o d) (nat_lt echo (s.echoes from)) (unnoticed s) _ (λ t. refl) (λ f. refl)
notice_silent h number boot o d s from (body.State x echo v state) =
    choose (Silent o d) (not (echo == boot)) (unnoticed s) _ (λ t. refl)
    (λ f. choose (Silent o d) (is_watched h number s x)
    (showed_if s (told_state x v state) (acceptance boot (s.shown x) echo v)) _
    (λ t. shown_silent o d s (told_state x v state) (acceptance boot (s.shown x) echo v)) (λ g. refl))
notice_silent h number boot o d s from (body.Unwatch x echo) = refl

-- What the grants answer is what the link has heard.

pub record Tells (o d : ℕ) (sent : List Message) (g : Grants) (s : GrantStep) : Type 0 where
  pub here : Hears o d sent (g.links (Operator o) d) (told_about o d (told_entries s.answers))
      (s.grants.links (Operator o) d)

-- nothing was heard
pub unheard : (o d : ℕ) (sent : List Message) (l k : Link) (told : List Told) → told ≡ [] → k ≡ l
    → Hears o d sent l told k
unheard o d sent l k told none same =
    subst (λ z. Hears o d sent l z k) (sym none) (subst (Hears o d sent l []) (sym same) nothing)

no_answer : (o d : ℕ) (sent : List Message) (g : Grants) (s : GrantStep) → s.answers ≡ []
    → s.grants.links (Operator o) d ≡ g.links (Operator o) d → Tells o d sent g s
no_answer o d sent g s none same = record {
  here = unheard o d sent (g.links (Operator o) d) (s.grants.links (Operator o) d)
      (told_about o d (told_entries s.answers)) (ap (λ z. told_about o d (told_entries z)) none) same;
}

pub decided_quiet : (h : Hierarchy) (number : ℕ) (g : Grants) (from d : ℕ) (note : Entry) (v : Verdict)
    → (decided h number g from d note v).answers ≡ []
decided_quiet h number g from d note (New r) = refl
decided_quiet h number g from d note Same = refl

pub run_quiet : (h : Hierarchy) (number : ℕ) (g : Grants) (from x : ℕ) (who : Holder) (e n : ℕ) (c : Command)
    → (run_comes h number g from x who e n c).answers ≡ []
run_quiet h number g from x who e n c = choose (λ (s : GrantStep). s.answers ≡ []) (admits (g.records x) who e n) _ _
    (λ t. refl) (λ f. refl)

-- a record is told to one operator's link
module _ (o d : ℕ) (sent : List Message) (g : Grants) (m : Message) (r : Standing) (among : Among m sent) where
  abbrev Stays : ℕ → ℕ → Type 0
  Stays p y =
      m.body ≡ body.Tell y r → Hears o d sent (g.links (Operator o) d)
      (told_about o d (told_entries (answers_of p y (g.links (Operator p) y)
      (settlements_in (told_heard (g.links (Operator p) y) (Operator p) r)))))
      (put_link g.links (Operator p) y (told_link (g.links (Operator p) y) (Operator p) r) (Operator o) d)

  mine : Stays o d
  mine is =
      subst (Hears o d sent (g.links (Operator o) d)
      (told_about o d (told_entries (answers_of o d (g.links (Operator o) d)
      (settlements_in (told_heard (g.links (Operator o) d) (Operator o) r))))))
      (sym (put_link_here g.links (Operator o) d (told_link (g.links (Operator o) d) (Operator o) r)))
      (subst (λ z. Hears o d sent (g.links (Operator o) d) z (told_link (g.links (Operator o) d) (Operator o) r))
      (sym (all_about o d (g.links (Operator o) d)
      (settlements_in (told_heard (g.links (Operator o) d) (Operator o) r))))
      (hears m r among is nothing))

  another : (q x : ℕ) → (q == o && x == d) ≡ false → Stays q x
  another q x f is =
      unheard o d sent (g.links (Operator o) d) _ _
      (aside_told o d _ (link_aside o d q x f (g.links (Operator q) x)
      (settlements_in (told_heard (g.links (Operator q) x) (Operator q) r))))
      (at_put_link (λ z. z ≡ g.links (Operator o) d) g.links (Operator q) x
      (told_link (g.links (Operator q) x) (Operator q) r) (Operator o) d
      (λ i j. absurd (not_here i j)) refl)
    where
      not_here : d ≡ x → Operator o ≡ Operator q → ⊥
      not_here i j =
          let k : o ≡ q = cc in
          let wrong : true ≡ false = sym (and_from _ _ (eq-eqb q o (sym k)) (eq-eqb x d (sym i))) ∙ f in cc

  operator_hears : (q x : ℕ) → Stays q x
  operator_hears q x = elim (either (q == o && x == d)) [
    | inl t ↦
        let a = and_parts (q == o) (x == d) t in
        subst (λ z. Stays z x) (sym (eqb-true q o a.0)) (subst (λ z. Stays o z) (sym (eqb-true x d a.1)) mine)
    | inr f ↦ another q x f
  ]

tell_tells : (h : Hierarchy) (number o d : ℕ) (sent : List Message) (g : Grants) (m : Message) (x : ℕ) (r : Standing)
    → Among m sent → m.body ≡ body.Tell x r → (who : Option Holder) → Tells o d sent g (told_to h number g x r who)
tell_tells h number o d sent g m x r among is None = no_answer o d sent g _ refl refl
tell_tells h number o d sent g m x r among is (Some Free) = no_answer o d sent g _ refl refl
tell_tells h number o d sent g m x r among is (Some (Domain p)) =
    let on = parent_heard g p x r in
    no_answer o d sent g (told_to h number g x r (Some (Domain p))) refl
    (ended_links (ends h on p) on p (Operator o) d
    ∙ at_put_link (λ z. z ≡ g.links (Operator o) d) g.links (Domain p) x
    (told_link (g.links (Domain p) x) (Domain p) r)
    (Operator o) d (λ i j. absurd (let wrong : Operator o ≡ Domain p = j in cc)) refl)
tell_tells h number o d sent g m x r among is (Some (Operator q)) =
    record { here = operator_hears o d sent g m r among q x is }

pub body_tells : (h : Hierarchy) (number o d : ℕ) (sent : List Message) (g : Grants) (from : ℕ) (m : Message)
    → Among m sent
    → (b : Body) → m.body ≡ b → Tells o d sent g (datagram_comes h number g from b)
body_tells h number o d sent g from m among (body.Ask x) is = no_answer o d sent g _ refl refl
body_tells h number o d sent g from m among (body.Take x who s) is =
    no_answer o d sent g _ (decided_quiet h number g from x _ (take_after (g.records x) who s))
    ((decides h number g from x who (Take s)).links (Operator o) d (λ i. cc))
body_tells h number o d sent g from m among (body.Drop x who e) is =
    no_answer o d sent g _ (decided_quiet h number g from x _ (drop_after (g.records x) who e))
    ((decides h number g from x who (Drop e)).links (Operator o) d (λ i. cc))
body_tells h number o d sent g from m among (body.Run x who e n c) is =
    no_answer o d sent g _ (run_quiet h number g from x who e n c)
    ((decides h number g from x who (Run e n c)).links (Operator o) d (λ i. cc))
body_tells h number o d sent g from m among (body.Tell x r) is =
    tell_tells h number o d sent g m x r among is (listener h number g x r)
body_tells h number o d sent g from m among (body.Watch x echo) is = no_answer o d sent g _ refl refl
body_tells h number o d sent g from m among (body.State x echo v s) is = no_answer o d sent g _ refl refl
body_tells h number o d sent g from m among (body.Unwatch x echo) is = no_answer o d sent g _ refl refl
