-- An entry that is taken leaves a safe trace safe, and what is kept describes the trace then.
use Rattle.std.proofs.Common.{ℕ, ◌≡◌, ◌+◌, Bool, true, false, List, [], ◌∷◌, refl, sym, ◌∙◌, subst, arith}
use Rattle.std.specs.Prelude.{◌==◌, ◌&&◌, if◌then◌else◌, length, Some}
use Rattle.std.proofs.lemmas.Bool.{and_parts, eqb-true}
use Rattle.std.proofs.lemmas.Bool.Decides.{nat_tests}
use Rattle.smi_base.specs.declared.trees.TheConstants.{MOST_LEVELS}
use Rattle.smi_grant.specs.declared.Command.{Command}
use Rattle.smi_grant.specs.declared.Holder.{Holder}
use Rattle.smi_grant.specs.declared.Holder.TheVariants.{Free, Operator}
use Rattle.smi_grant.specs.declared.Shown.{Shown}
use Rattle.smi_grant.specs.Holder.{same_holder}
use Rattle.smi_tree.specs.Hierarchy.{Hierarchy}
use Rattle.smi_law.specs.Safe.{Safe, GrantFits, SoundRuns, RunsInOrder, StateFits}
use Rattle.smi_law.specs.Trace.{runs_under, epoch_at, holder_at, has_learned, mode_at, orders_of, InWork}
use Rattle.smi_audit.specs.Tables.{Account, Tables, no_trace, begun, ordered, ran, learned, let_go, in_mode, settled}
use Rattle.smi_protocol.specs.Grants.{put}
use Rattle.smi_audit.specs.Tables.{takes, kept, has_passed, may_hold}
use Rattle.smi_audit.specs.Tables.{is_given}
use Rattle.smi_audit.specs.Described.{IsAccount, HasPassed, IsLastShown, IsDescribed}
use Rattle.smi_protocol.specs.declared.Entry.{Entry}
use Rattle.smi_protocol.specs.declared.Entry.TheVariants.{Booted, Granted, Freed, Ordered, Ran, Learned, LetGo}
use Rattle.smi_protocol.specs.declared.Entry.TheVariants.{InMode, Settled, Showed, Passed, Told}
use Rattle.smi_audit.proofs.CalmStates.{passed_still, shown_still, NoPassing, NoShowing}
use Rattle.smi_audit.proofs.Steps.{Calm, still, granted_account, freed_account, ordered_account, ran_account}
use Rattle.smi_audit.proofs.Steps.{gone_loose, never}
use Rattle.smi_audit.proofs.Steps.{learned_account, let_go_account, in_mode_account, settled_account}
use Rattle.smi_audit.proofs.States.{passing_fits, passed_now, showing_fits, shown_now, started_now}
use Rattle.smi_audit.proofs.Fits.{grant_fits, end_fits, learned_fits, let_go_fits, one_commander, run_rests, run_next}
use Rattle.smi_audit.proofs.Fits.{run_above}

-- A table with one state replaced.

row_at : {X : Type 0} (P : ℕ → X → Type 0) (table : ℕ → X) (x : ℕ) (v : X) → P x v
    → ((y : ℕ) → (x ≡ y → ⊥) → P y (table y)) → (y : ℕ) → P y (put table x v y)
row_at {X = X} P table x v here there y = by (y == x) refl
  where
    by : (b : Bool) → (y == x) ≡ b → P y (if b then v else table y)
    by true is = subst (λ z. P z v) (sym (eqb-true y x is)) here
    by false is = there y (λ i. let t : (y == x) ≡ true = grind (arith, nat_tests, i) in
        let wrong : true ≡ false = sym t ∙ is in cc)

calm : (x : Entry) → Type 0
calm x = Unit {0}

module _ (h : Hierarchy) (past : List Entry) (t : Tables) (a : IsDescribed past t) where
  -- an entry about one domain
  one_domain : (x : Entry) (d : ℕ) (s : Account) → IsAccount (x ∷ past) d s
      → ((y : ℕ) → (d ≡ y → ⊥) → Calm y x) → ((y : ℕ) → NoPassing y x) → ((u y : ℕ) → NoShowing u y x)
      → IsDescribed (x ∷ past) (record t { domains = put t.domains d s })
  one_domain x d s here there passing shown = record {
    domains = row_at (IsAccount (x ∷ past)) t.domains d s here
        (λ y other. still past y (t.domains y) x (there y other) (a.domains y));
    passed = λ y. passed_still past y (t.passed y) x (passing y) (a.passed y);
    shown = λ u y. shown_still past u y (t.shown u y) x (shown u y) (a.shown u y);
  }

  after_grant : (d e : ℕ) (who : Holder) → takes h t (Granted d e who) ≡ true
      → IsDescribed (Granted d e who ∷ past) (kept t (Granted d e who))
  after_grant d e who u =
      let b = and_parts (e == (t.domains d).epoch + 1) _ u in
      let c = and_parts _ _ b.1 in
      let f = and_parts (may_hold h d who) _ c.1 in
      one_domain (Granted d e who) d (begun e who)
      (granted_account past d (t.domains d) (a.domains d) e (eqb-true e _ b.0) f.1 who)
      (λ y other. record { hands = other; link = tt; mode = tt; order = tt; run = tt; work = tt })
      (λ y. tt) (λ v y. tt)

  after_end : (d e : ℕ) → takes h t (Freed d e) ≡ true → IsDescribed (Freed d e ∷ past) (kept t (Freed d e))
  after_end d e u =
      let b = and_parts (e == (t.domains d).epoch + 1) _ u in
      let c = and_parts _ _ b.1 in
      one_domain (Freed d e) d (begun e Free)
      (freed_account past d (t.domains d) (a.domains d) e (eqb-true e _ b.0)
      (gone_loose (t.domains d).stage c.1))
      (λ y other. record { hands = other; link = tt; mode = tt; order = tt; run = tt; work = tt })
      (λ y. tt) (λ v y. tt)

  after_order : (o d e n : ℕ) (c : Command) → takes h t (Ordered o d e n c) ≡ true
      → IsDescribed (Ordered o d e n c ∷ past) (kept t (Ordered o d e n c))
  after_order o d e n c u =
      let b = and_parts (same_holder (t.domains d).holder (Operator o)) _ u in
      let f = and_parts (e == (t.domains d).epoch) _ b.1 in
      let g = and_parts (n == length (t.domains d).orders + 1) _ f.1 in
      one_domain (Ordered o d e n c) d (ordered (t.domains d) c)
      (ordered_account past d (t.domains d) (a.domains d) o e n c b.0 (eqb-true e _ f.0) (eqb-true n _ g.0))
      (λ y other. record { hands = tt; link = tt; mode = tt; order = other; run = tt; work = tt })
      (λ y. tt) (λ v y. tt)

  after_run : (d e n : ℕ) (c : Command) → takes h t (Ran d e n c) ≡ true
      → IsDescribed (Ran d e n c ∷ past) (kept t (Ran d e n c))
  after_run d e n c u =
      let b = and_parts (e == (t.domains d).epoch) _ u in
      let f = and_parts (n == (t.domains d).ran + 1) _ b.1 in
      one_domain (Ran d e n c) d (ran (t.domains d) n c)
      (ran_account past d (t.domains d) (a.domains d) e n c (eqb-true e _ b.0) (eqb-true n _ f.0))
      (λ y other. record { hands = tt; link = tt; mode = tt; order = tt; run = other; work = other })
      (λ y. tt) (λ v y. tt)

  after_learned : (who : Holder) (d e : ℕ) → takes h t (Learned who d e) ≡ true
      → IsDescribed (Learned who d e ∷ past) (kept t (Learned who d e))
  after_learned who d e u =
      let b = and_parts (e == (t.domains d).epoch) _ u in
      let f = and_parts (same_holder (t.domains d).holder who) _ b.1 in
      let g = and_parts (is_given (t.domains d).stage) _ f.1 in
      one_domain (Learned who d e) d (learned (t.domains d))
      (learned_account past d (t.domains d) (a.domains d) who e (eqb-true e _ b.0) f.0 g.0)
      (λ y other. record { hands = tt; link = other; mode = other; order = tt; run = tt; work = tt })
      (λ y. tt) (λ v y. tt)

  after_let_go : (who : Holder) (d e : ℕ) → takes h t (LetGo who d e) ≡ true
      → IsDescribed (LetGo who d e ∷ past) (kept t (LetGo who d e))
  after_let_go who d e u =
      let b = and_parts (e == (t.domains d).epoch) _ u in
      let f = and_parts (same_holder (t.domains d).holder who) _ b.1 in
      one_domain (LetGo who d e) d (let_go (t.domains d))
      (let_go_account past d (t.domains d) (a.domains d) who e (eqb-true e _ b.0) f.0)
      (λ y other. record { hands = tt; link = other; mode = tt; order = tt; run = tt; work = tt })
      (λ y. tt) (λ v y. tt)

  -- what stays where no domain is spoken of
  same_domains : (x : Entry) → ((y : ℕ) → Calm y x) → (y : ℕ) → IsAccount (x ∷ past) y (t.domains y)
  same_domains x quiet y = still past y (t.domains y) x (quiet y) (a.domains y)

  after_boot : (s b : ℕ) → IsDescribed (Booted s b ∷ past) (kept t (Booted s b))
  after_boot s b = record {
    domains = same_domains (Booted s b)
        (λ y. record { hands = tt; link = tt; mode = tt; order = tt; run = tt; work = tt });
    passed = λ y. passed_still past y (t.passed y) (Booted s b) tt (a.passed y);
    shown = λ v y. by v y (v == s) refl;
  }
    where
      by : (v y : ℕ) (c : Bool) → (v == s) ≡ c → IsLastShown (Booted s b ∷ past) v y
          (if c then record { last = (t.shown v y).last; since = false } else t.shown v y)
      by v y true is = subst (λ z. IsLastShown (Booted z b ∷ past) v y
          (record { last = (t.shown v y).last; since = false })) (eqb-true v s is)
          (started_now past v y b (t.shown v y) (a.shown v y))
      by v y false is = shown_still past v y (t.shown v y) (Booted s b)
          (λ i. let u : (v == s) ≡ true = grind (arith, nat_tests, i) in let wrong : true ≡ false = sym u ∙ is in cc)
          (a.shown v y)

  after_showed : (s : ℕ) (z : Shown) → takes h t (Showed s z) ≡ true
      → IsDescribed (Showed s z ∷ past) (kept t (Showed s z))
  after_showed s z u = record {
    domains = same_domains (Showed s z)
        (λ y. record { hands = tt; link = tt; mode = tt; order = tt; run = tt; work = tt });
    passed = λ y. passed_still past y (t.passed y) (Showed s z) tt (a.passed y);
    shown = λ v y. by v y (v == s && y == z.object) refl;
  }
    where
      now : IsLastShown (Showed s z ∷ past) s z.object (record { last = Some z.version; since = true })
      now = shown_now past s z (t.shown s z.object) (a.shown s z.object)
          (and_parts (has_passed (t.passed z.object) z) _ u).1

      by : (v y : ℕ) (c : Bool) → (v == s && y == z.object) ≡ c → IsLastShown (Showed s z ∷ past) v y
          (if c then record { last = Some z.version; since = true } else t.shown v y)
      by v y true is =
          let p = and_parts (v == s) _ is in
          subst (λ w. IsLastShown (Showed s z ∷ past) w y (record { last = Some z.version; since = true }))
          (sym (eqb-true v s p.0))
          (subst (λ w. IsLastShown (Showed s z ∷ past) s w (record { last = Some z.version; since = true }))
          (sym (eqb-true y z.object p.1)) now)
      by v y false is = shown_still past v y (t.shown v y) (Showed s z)
          (λ i j. let u : (v == s && y == z.object) ≡ true = grind (arith, nat_tests, i, j) in
          let wrong : true ≡ false = sym u ∙ is in cc)
          (a.shown v y)

  after_passed : (z : Shown) → takes h t (Passed z) ≡ true → IsDescribed (Passed z ∷ past) (kept t (Passed z))
  after_passed z u = record {
    domains = same_domains (Passed z)
        (λ y. record { hands = tt; link = tt; mode = tt; order = tt; run = tt; work = tt });
    passed = row_at (HasPassed (Passed z ∷ past)) t.passed z.object (z ∷ t.passed z.object)
        (passed_now past z (t.passed z.object) (a.passed z.object) u)
        (λ y other. passed_still past y (t.passed y) (Passed z) other (a.passed y));
    shown = λ v y. shown_still past v y (t.shown v y) (Passed z) tt (a.shown v y);
  }

  -- what is kept describes the trace with the entry
  pub described : (x : Entry) → takes h t x ≡ true → IsDescribed (x ∷ past) (kept t x)
  described (Booted s b) u = after_boot s b
  described (Granted d e who) u = after_grant d e who u
  described (Freed d e) u = after_end d e u
  described (Ordered o d e n c) u = after_order o d e n c u
  described (Ran d e n c) u = after_run d e n c u
  described (Learned who d e) u = after_learned who d e u
  described (LetGo who d e) u = after_let_go who d e u
  described (InMode d m) u =
      one_domain (InMode d m) d (in_mode (t.domains d) m)
      (in_mode_account past d (t.domains d) (a.domains d) m)
      (λ y other. record { hands = tt; link = tt; mode = other; order = tt; run = tt; work = tt })
      (λ y. tt) (λ v y. tt)
  described (Settled d e n q) u =
      one_domain (Settled d e n q) d (settled (t.domains d) e n)
      (settled_account past d (t.domains d) (a.domains d) e n q)
      (λ y other. record { hands = tt; link = tt; mode = tt; order = tt; run = tt; work = other })
      (λ y. tt) (λ v y. tt)
  described (Showed s z) u = after_showed s z u
  described (Passed z) u = after_passed z u
  described (Told o z) u = record {
    domains = same_domains (Told o z)
        (λ y. record { hands = tt; link = tt; mode = tt; order = tt; run = tt; work = tt });
    passed = λ y. passed_still past y (t.passed y) (Told o z) tt (a.passed y);
    shown = λ v y. shown_still past v y (t.shown v y) (Told o z) tt (a.shown v y);
  }

  -- each part of what makes a trace safe
  fits : (x : Entry) → takes h t x ≡ true → GrantFits h x past
  fits (Booted s b) u = tt
  fits (Granted d e who) u = grant_fits h past d (t.domains d) (a.domains d) e who u
  fits (Freed d e) u = end_fits h past d (t.domains d) (a.domains d) e u
  fits (Ordered o d e n c) u = tt
  fits (Ran d e n c) u = tt
  fits (Learned who d e) u = learned_fits h past d (t.domains d) (a.domains d) who e u
  fits (LetGo who d e) u = let_go_fits h past d (t.domains d) (a.domains d) who e u
  fits (InMode d m) u = tt
  fits (Settled d e n q) u = tt
  fits (Showed s z) u = tt
  fits (Passed z) u = tt
  fits (Told o z) u = tt

  sound_runs : (x : Entry) → takes h t x ≡ true → SoundRuns h past → SoundRuns h (x ∷ past)
  sound_runs (Booted s b) u r = r
  sound_runs (Granted d e who) u r = r
  sound_runs (Freed d e) u r = r
  sound_runs (Ordered o d e n c) u r = r
  sound_runs (Ran d e n c) u r =
      let b = and_parts (e == (t.domains d).epoch) _ u in
      let f = and_parts (n == (t.domains d).ran + 1) _ b.1 in
      (run_rests h past t.domains a.domains MOST_LEVELS d e n c (eqb-true e _ b.0) f.1, r)
  sound_runs (Learned who d e) u r = r
  sound_runs (LetGo who d e) u r = r
  sound_runs (InMode d m) u r = r
  sound_runs (Settled d e n q) u r = r
  sound_runs (Showed s z) u r = r
  sound_runs (Passed z) u r = r
  sound_runs (Told o z) u r = r

  ordered_runs : (x : Entry) → takes h t x ≡ true → RunsInOrder past → RunsInOrder (x ∷ past)
  ordered_runs (Booted s b) u r = r
  ordered_runs (Granted d e who) u r = r
  ordered_runs (Freed d e) u r = r
  ordered_runs (Ordered o d e n c) u r = r
  ordered_runs (Ran d e n c) u r =
      let b = and_parts (e == (t.domains d).epoch) _ u in
      let f = and_parts (n == (t.domains d).ran + 1) _ b.1 in
      let at : e ≡ (t.domains d).epoch = eqb-true e _ b.0 in
      let next : n ≡ (t.domains d).ran + 1 = eqb-true n _ f.0 in (
        run_next h past t.domains a.domains MOST_LEVELS d e n c at next,
        run_above h past t.domains a.domains MOST_LEVELS d e n c at next,
        r,
      )
  ordered_runs (Learned who d e) u r = r
  ordered_runs (LetGo who d e) u r = r
  ordered_runs (InMode d m) u r = r
  ordered_runs (Settled d e n q) u r = r
  ordered_runs (Showed s z) u r = r
  ordered_runs (Passed z) u r = r
  ordered_runs (Told o z) u r = r

  state_fits : (x : Entry) → takes h t x ≡ true → StateFits x past
  state_fits (Booted s b) u = tt
  state_fits (Granted d e who) u = tt
  state_fits (Freed d e) u = tt
  state_fits (Ordered o d e n c) u = tt
  state_fits (Ran d e n c) u = tt
  state_fits (Learned who d e) u = tt
  state_fits (LetGo who d e) u = tt
  state_fits (InMode d m) u = tt
  state_fits (Settled d e n q) u = tt
  state_fits (Showed s z) u =
      let b = and_parts (has_passed (t.passed z.object) z) _ u in
      showing_fits past s z (t.shown s z.object) (a.shown s z.object) b.1 ((a.passed z.object).stood z b.0)
  state_fits (Passed z) u = passing_fits past z (t.passed z.object) (a.passed z.object) u
  state_fits (Told o z) u = tt

  -- an entry that is taken leaves a safe trace safe
  pub taken_safe : (x : Entry) → takes h t x ≡ true → Safe h past → Safe h (x ∷ past)
  taken_safe x u safe = record {
    grants = (fits x u, one_commander h (x ∷ past) (kept t x).domains (described x u).domains, safe.grants);
    runs = sound_runs x u safe.runs;
    order = ordered_runs x u safe.order;
    states = (state_fits x u, safe.states);
  }

-- The empty trace.

nothing_described : (d : ℕ) → IsAccount [] d (begun 0 Free)
unfolding epoch_at holder_at has_learned mode_at orders_of InWork runs_under
nothing_described d = record {
  epoch = refl;
  holder = refl;
  granted = λ held. absurd cc;
  learned = λ me e. sym (never (e == 0) (same_holder me Free));
  once = λ me e a. absurd a;
  let_go = λ gone. absurd cc;
  mode = λ p at held. absurd cc;
  orders = λ o n at. refl;
  unordered = λ o e n above. refl;
  runs = refl;
  unrun = λ e above. refl;
  behind = λ e n c a. absurd a;
  work = λ c at. absurd cc;
}

pub first_described : IsDescribed [] no_trace
first_described = record {
  domains = nothing_described;
  passed = λ x. record { stood = λ z t. absurd cc; newest = λ v u q t a. absurd a };
  shown = λ s x. record { older = λ v least u q a. absurd a; newer = λ v above. tt };
}

pub first_safe : (h : Hierarchy) → Safe h []
first_safe h = record {
  grants = one_commander h [] no_trace.domains first_described.domains;
  runs = tt;
  order = tt;
  states = tt;
}

-- A list of entries is taken, one after the other.

pub record Taken (h : Hierarchy) (past : List Entry) (t : Tables) : Type 0 where
  pub described : IsDescribed past t
  pub safe : Safe h past

pub first_taken : (h : Hierarchy) → Taken h [] no_trace
first_taken h = record { described = first_described; safe = first_safe h }

pub one_taken : (h : Hierarchy) (past : List Entry) (t : Tables) (x : Entry) → Taken h past t → takes h t x ≡ true
    → Taken h (x ∷ past) (kept t x)
one_taken h past t x a u = record {
  described = described h past t a.described x u;
  safe = taken_safe h past t a.described x u a.safe;
}
