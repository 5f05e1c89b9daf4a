-- What an entry that is taken asks of the trace before it.
use Rattle.std.proofs.Common.{ℕ, zero, suc, ◌≡◌, ◌+◌, Bool, true, false, List, [], ◌∷◌, inl, inr, refl, sym, ap, ◌∙◌}
use Rattle.std.proofs.Common.{subst, arith}
use Rattle.std.specs.Prelude.{◌==◌, ◌&&◌, if◌then◌else◌, Option, Some, None, is_some}
use Rattle.std.specs.Option.{option_map_or}
use Rattle.std.proofs.lemmas.Bool.{and_parts, eqb-true}
use Rattle.smi_grant.specs.Command.{verb_of, argument_of, command_of}
use Rattle.smi_grant.specs.declared.Command.{Command}
use Rattle.smi_grant.specs.declared.Command.TheVariants.{Do, Include, Exclude, Manual, Ignore}
use Rattle.smi_grant.specs.declared.Holder.{Holder}
use Rattle.smi_grant.specs.declared.Holder.TheVariants.{Free, Operator, Domain}
use Rattle.smi_grant.specs.Holder.{is_free, same_holder}
use Rattle.smi_grant.proofs.Holders.{same_is, same_self}
use Rattle.smi_tree.specs.Hierarchy.{Hierarchy}
use Rattle.smi_tree.specs.Lookups.{operator_station_of, parent_of}
use Rattle.smi_protocol.specs.Children.{is_commanded}
use Rattle.smi_law.specs.Safe.{Commands, directly, through, OneCommander, MayHold, GrantFits}
use Rattle.smi_law.specs.Safe.{Forwards, IsGrantNow, Backed, by_operator, by_parent, IsBehind}
use Rattle.smi_law.specs.Trace.{Stands, epoch_at, holder_at, has_learned, Holds, mode_at, orders_of, InWork, runs_under}
use Rattle.smi_audit.specs.Tables.{Account, may_hold, takes_grant, takes_end, takes_learned, takes_let_go}
use Rattle.smi_audit.specs.Tables.{is_given, is_held, same_command, is_only, works_on, order_at}
use Rattle.smi_audit.specs.Tables.{forwards, is_behind, rests}
use Rattle.smi_audit.specs.Described.{IsAccount}
use Rattle.smi_protocol.specs.declared.Entry.{Entry}
use Rattle.smi_protocol.specs.declared.Entry.TheVariants.{Granted, Freed, Ran, Learned, LetGo}
use Rattle.smi_audit.proofs.Steps.{number_self}

-- Grants.

some_is : {X : Type 0} (o : Option X) → is_some o ≡ true → (x : X) × (o ≡ Some x)
some_is None t = absurd cc
some_is (Some x) t = (x, refl)

number_is : (o : Option ℕ) (p : ℕ) → option_map_or (λ q. q == p) o false ≡ true → o ≡ Some p
number_is None p t = absurd cc
number_is (Some q) p t = ap Some (eqb-true q p t)

may : (h : Hierarchy) (d : ℕ) (who : Holder) → may_hold h d who ≡ true → MayHold h d who
may h d Free t = absurd cc
may h d (Operator o) t = some_is (operator_station_of h o) t
may h d (Domain p) t = number_is (parent_of h d) p t

module _ (h : Hierarchy) (past : List Entry) (d : ℕ) (s : Account) (i : IsAccount past d s) where
  pub grant_fits : (e : ℕ) (who : Holder) → takes_grant h d s e who ≡ true → GrantFits h (Granted d e who) past
  grant_fits e who t =
      let a = and_parts (e == s.epoch + 1) _ t in
      let b = and_parts _ _ a.1 in
      let c = and_parts (may_hold h d who) _ b.1 in
      (eqb-true e (s.epoch + 1) a.0 ∙ ap (λ z. z + 1) (sym i.epoch), eqb-true _ 1 b.0, may h d who c.0)

  pub end_fits : (e : ℕ) → takes_end s e ≡ true → GrantFits h (Freed d e) past
  end_fits e t =
      let a = and_parts (e == s.epoch + 1) _ t in
      let b = and_parts _ _ a.1 in (
        eqb-true e (s.epoch + 1) a.0 ∙ ap (λ z. z + 1) (sym i.epoch),
        eqb-true _ 0 b.0,
        subst (λ z. Stands (LetGo (holder_at d past) d z) past) (sym i.epoch)
            (subst (λ z. Stands (LetGo z d s.epoch) past) (sym i.holder) (i.let_go b.1)),
      )

  is_holder : (who : Holder) → same_holder s.holder who ≡ true → s.holder ≡ who
  is_holder who t = same_is s.holder who t

  party : (b : Bool) → (if b then false else true) ≡ true → b ≡ false
  party true t = absurd cc
  party false t = refl

  once_alone : (who : Holder) (e : ℕ) → e ≡ s.epoch → is_given s.stage ≡ true → Stands (Learned who d e) past → ⊥
  once_alone who e at given a = elim (i.once who e a) [
    | inl less ↦ omega arith
    | inr now ↦ let wrong : true ≡ false = sym given ∙ now.1 in cc
  ]

  pub learned_fits : (who : Holder) (e : ℕ) → takes_learned s who e ≡ true → GrantFits h (Learned who d e) past
  learned_fits who e t =
      let a = and_parts (e == s.epoch) _ t in
      let b = and_parts (same_holder s.holder who) _ a.1 in
      let c = and_parts (is_given s.stage) _ b.1 in
      let at : e ≡ s.epoch = eqb-true e s.epoch a.0 in
      let is : s.holder ≡ who = is_holder who b.0 in
      let held : is_free s.holder ≡ false = ap is_free is ∙ party (is_free who) c.1 in (
        at ∙ sym i.epoch,
        subst (λ z. Stands (Granted d z who) past) (sym at)
            (subst (λ z. Stands (Granted d s.epoch z) past) is (i.granted held)),
        once_alone who e at c.0,
      )

  holds_now : (who : Holder) → s.holder ≡ who → is_held s.stage ≡ true → Holds who d past
  holds_now who is held = i.learned who (epoch_at d past)
      ∙ ap (λ b. b && (same_holder who s.holder && is_held s.stage))
      (ap (λ z. z == s.epoch) i.epoch ∙ number_self s.epoch)
      ∙ ap (λ b. true && (b && is_held s.stage)) (ap (same_holder who) is ∙ same_self who)
      ∙ held

  pub let_go_fits : (who : Holder) (e : ℕ) → takes_let_go s who e ≡ true → GrantFits h (LetGo who d e) past
  let_go_fits who e t =
      let a = and_parts (e == s.epoch) _ t in
      let b = and_parts (same_holder s.holder who) _ a.1 in
      (eqb-true e s.epoch a.0 ∙ sym i.epoch, holds_now who (is_holder who b.0) b.1)

  pub held_by : (me : Holder) → Holds me d past → me ≡ s.holder
  held_by me holds =
      let t = sym (i.learned me (epoch_at d past)) ∙ holds in
      let a = and_parts (epoch_at d past == s.epoch) _ t in
      let b = and_parts (same_holder me s.holder) _ a.1 in
      same_is me s.holder b.0

  pub grant_now : (who : Holder) → s.holder ≡ who → is_held s.stage ≡ true → IsGrantNow d s.epoch who past
  grant_now who is held = (sym i.epoch, i.holder ∙ is, holds_now who is held)

-- One commander.

module _ (h : Hierarchy) (past : List Entry) (domains : ℕ → Account)
    (i : (d : ℕ) → IsAccount past d (domains d)) where
  same : (d : ℕ) (g k : Holder) → Holds g d past → Holds k d past → g ≡ k
  same d g k x y = held_by h past d (domains d) (i d) g x ∙ sym (held_by h past d (domains d) (i d) k y)

  commander : (a b d : ℕ) → Commands h past a d → Commands h past b d → a ≡ b
  commander a b d (directly x) (directly y) =
      let j : Operator a ≡ Operator b = same d (Operator a) (Operator b) x y in cc
  commander a b d (directly x) (through q k y c) =
      let j : Operator a ≡ Domain q = same d (Operator a) (Domain q) x y in absurd cc
  commander a b d (through p k x c) (directly y) =
      let j : Domain p ≡ Operator b = same d (Domain p) (Operator b) x y in absurd cc
  commander a b d (through p k x c) (through q l y m) =
      let j : Domain p ≡ Domain q = same d (Domain p) (Domain q) x y in
      let e : p ≡ q = cc in
      commander a b p c (subst (λ z. Commands h past b z) (sym e) m)

  pub one_commander : OneCommander h past
  one_commander d a b x y = commander a b d x y

-- Runs.

command_again : (c : Command) → command_of (verb_of c) (argument_of c) ≡ Some c
command_again (Do a) = refl
command_again (Include t) = refl
command_again (Exclude t) = refl
command_again (Manual t) = refl
command_again (Ignore t) = refl

pub command_is : (a b : Command) → same_command a b ≡ true → a ≡ b
command_is a b t =
    let p = and_parts (verb_of a == verb_of b) _ t in
    let i : Some a ≡ Some b =
    sym (command_again a) ∙ ap (λ v. command_of v (argument_of a)) (eqb-true _ _ p.0)
    ∙ ap (command_of (verb_of b)) (eqb-true _ _ p.1) ∙ command_again b in
    cc

only_is : (l : List Command) (c : Command) → is_only l c ≡ true → l ≡ c ∷ []
only_is [] c t = absurd cc
only_is (k ∷ []) c t = ap (λ z. z ∷ []) (command_is k c t)
only_is (k ∷ m ∷ more) c t = absurd cc

works_is : (o : Option Command) (c : Command) → works_on o c ≡ true → o ≡ Some c
works_is None c t = absurd cc
works_is (Some k) c t = ap Some (command_is k c t)

forwarded : (h : Hierarchy) (p : ℕ) (c : Command) (d : ℕ) → forwards h p c d ≡ true → Forwards h p c d
forwarded h p (Do a) d t = t
forwarded h p (Include x) d t = t
forwarded h p (Exclude x) d t = t
forwarded h p (Manual x) d t = t
forwarded h p (Ignore x) d t = t

module _ (h : Hierarchy) (past : List Entry) (domains : ℕ → Account)
    (i : (d : ℕ) → IsAccount past d (domains d)) where
  rests_backed : (k d n : ℕ) (c : Command) → rests k h domains d n c ≡ true → Backed h past d (domains d).epoch n c
  unfolding rests
  rests_backed zero d n c t = absurd cc
  rests_backed (suc k) d n c t =
      let a = and_parts (is_held (domains d).stage) _ t in
      by (domains d).holder refl a.0 a.1 (λ p u. rests_backed k p (domains p).ran c u)
    where
      by : (who : Holder) → (domains d).holder ≡ who → is_held (domains d).stage ≡ true
          → is_behind h domains d n c (λ p. rests k h domains p (domains p).ran c) who ≡ true
          → ((p : ℕ) → rests k h domains p (domains p).ran c ≡ true
          → Backed h past p (domains p).epoch (domains p).ran c)
          → Backed h past d (domains d).epoch n c
      by Free is held u up = absurd cc
      by (Operator o) is held u up =
          by_operator o (grant_now h past d (domains d) (i d) (Operator o) is held)
          ((i d).orders o n is ∙ only_is (order_at (domains d).orders n) c u)
      by (Domain p) is held u up =
          let a = and_parts (may_hold h d (Domain p)) _ u in
          let b = and_parts (is_commanded (domains d).mode) _ a.1 in
          let e = and_parts (works_on (domains p).work c) _ b.1 in
          let f = and_parts (forwards h p c d) _ e.1 in
          by_parent p (domains p).epoch (domains p).ran
          (grant_now h past d (domains d) (i d) (Domain p) is held) (may h d (Domain p) a.0)
          (ap is_commanded ((i d).mode p is held) ∙ b.0)
          ((i p).work c (works_is (domains p).work c e.0))
          (forwarded h p c d f.0) (up p f.1)

-- what a command rests on stays when one more runs
run_backed : (h : Hierarchy) (past : List Entry) (y g m : ℕ) (l : Command) (d e n : ℕ) (c : Command)
    → Backed h past d e n c → Backed h (Ran y g m l ∷ past) d e n c
unfolding epoch_at holder_at has_learned mode_at orders_of InWork
run_backed h past y g m l d e n c (by_operator o now ordered) = by_operator o now ordered
run_backed h past y g m l d e n c (by_parent p f k now parent mode work forward up) =
    by_parent p f k now parent mode (inr work) forward (run_backed h past y g m l p f k c up)

module _ (h : Hierarchy) (past : List Entry) (domains : ℕ → Account)
    (i : (d : ℕ) → IsAccount past d (domains d)) (k d e n : ℕ) (c : Command) where
  pub run_rests : e ≡ (domains d).epoch → rests k h domains d n c ≡ true → Backed h (Ran d e n c ∷ past) d e n c
  run_rests at t = run_backed h past d e n c d e n c
      (subst (λ z. Backed h past d z n c) (sym at) (rests_backed h past domains i k d n c t))

  pub run_next : e ≡ (domains d).epoch → n ≡ (domains d).ran + 1 → n ≡ runs_under d e past + 1
  run_next at next = next ∙ ap (λ z. z + 1) (sym (i d).runs) ∙ ap (λ z. runs_under d z past + 1) (sym at)

  pub run_above : e ≡ (domains d).epoch → n ≡ (domains d).ran + 1 → IsBehind d e n past
  run_above at next f m b a = elim ((i d).behind f m b a) [
    | inl less ↦ inl (omega arith)
    | inr now ↦ let x = now.1 in inr (now.0 ∙ sym at, omega (arith, x))
  ]
