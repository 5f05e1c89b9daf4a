-- A step of one station keeps what is known of the states that are shown.
use Rattle.std.proofs.Common.{ℕ, ◌≡◌, ◌≤◌, ◌+◌, true, false, List, ◌⊎◌, inl, inr, refl, sym, ap, ◌∙◌, subst, arith}
use Rattle.std.specs.Prelude.{◌==◌, Option, Some, None, map}
use Rattle.std.specs.Option.{option_map_or}
use Rattle.std.proofs.lemmas.Bool.{eqb-true}
use Rattle.smi_grant.specs.declared.Shown.{Shown}
use Rattle.smi_grant.specs.declared.Version.{Version}
use Rattle.smi_message.specs.declared.Body.TheVariants as body
use Rattle.smi_message.specs.Message.{Message}
use Rattle.smi_tree.specs.Hierarchy.{Hierarchy}
use Rattle.smi_publish.specs.declared.condition.Condition.{Condition}
use Rattle.smi_publish.specs.Published.{shown}
use Rattle.smi_tree.specs.Roles.{keeper_of, is_kept_by}
use Rattle.smi_view.specs.Accepting.{is_newer_than_last}
use Rattle.smi_watchers.specs.Watching.{watcher, listed}
use Rattle.smi_protocol.specs.Display.{Station}
use Rattle.smi_protocol.specs.Step.{showed_entries}
use Rattle.smi_protocol.specs.declared.Entry.{Entry}
use Rattle.smi_protocol.specs.declared.Entry.TheVariants as entry
use Rattle.smi_protocol.specs.declared.Entry.TheVariants.{Showed, Passed}
use Rattle.smi_law.specs.Safe.{IsNewer, NotOlderThanShown, NewerThanShown, ShownWell}
use Rattle.smi_protocol.specs.Schedule.{World}
use Rattle.smi_law.specs.Trace.{Stands, before_start}
use Rattle.smi_law.specs.World.{Among as IsSent, with_station, noted}
use Rattle.smi_law.proofs.Stations.{at_stations}
use Rattle.smi_law.proofs.Lists.{In, in_mapped, Apart, stands_noted, stands_new}
use Rattle.smi_law.proofs.Shows.{state_of, ToldWell, IsNewest, Shows, not_older_at_all, object_of, well_passed}
use Rattle.smi_law.proofs.Shows.{before_passed_all, newer_passed_all, from_passed_all}
use Rattle.smi_law.proofs.Versions.{is_newer_by, newer_than, Somewhere}

-- an object changes: its next condition
pub record Next (old new : Option Condition) : Type 0 where
  pub before : Condition
  pub after : Condition
  pub was : old ≡ Some before
  pub is : new ≡ Some after
  pub next : after.sequence ≡ before.sequence + 1

-- what a step of a station does to states: it is shown something or not, and these are passed on
pub record Acts (h : Hierarchy) (past : List Entry) (w : World) (number : ℕ) (s : Station) (showed : Option Shown)
    (passed : List Shown) : Type 0 where
  pub boot : s.grants.boot ≡ (w.stations number).grants.boot
  pub changes : (x : ℕ) → (s.display.conditions x ≡ (w.stations number).display.conditions x)
      ⊎ ((n : Next ((w.stations number).display.conditions x) (s.display.conditions x))
      × In (shown (w.stations number).grants.boot x n.after) passed)
  pub from_passed : (v : Shown) → In v passed
      → (n : Next ((w.stations number).display.conditions v.object) (s.display.conditions v.object))
      × (v ≡ shown (w.stations number).grants.boot v.object n.after)
  pub apart : Apart object_of passed
  pub watchers : (x station echo : ℕ) → In (watcher station echo) (listed s.display.watchers x)
      → Somewhere (watcher station echo) (w.stations number).display.watchers
      ⊎ (echo ≤ (w.stations station).grants.boot)
  pub table : (x : ℕ) (v : Version) → is_newer_than_last (s.display.shown x) v ≡ true
      → is_newer_than_last ((w.stations number).display.shown x) v ≡ true
  pub newer : (x : ℕ) (v : Version) → is_newer_than_last (s.display.shown x) v ≡ true → (sh : Shown)
      → showed ≡ Some sh → sh.object ≡ x → IsNewer v sh.version
  pub told : (sh : Shown) → showed ≡ Some sh → Stands (Passed sh) past
  pub first : (sh : Shown) → showed ≡ Some sh
      → is_newer_than_last ((w.stations number).display.shown sh.object) sh.version ≡ true
  pub since : (sh : Shown) → showed ≡ Some sh → NotOlderThanShown number sh.object sh.version (before_start number past)

-- an object is kept by one station
pub kept_once : (h : Hierarchy) (m n x : ℕ) → is_kept_by h m x ≡ true → is_kept_by h n x ≡ true → m ≡ n
kept_once h m n x a b = by (keeper_of h x) a b
  where
    by : (o : Option ℕ) → option_map_or (λ keeper. keeper == m) o false ≡ true
        → option_map_or (λ keeper. keeper == n) o false ≡ true → m ≡ n
    by None i j = absurd cc
    by (Some k) i j = sym (eqb-true k m i) ∙ eqb-true k n j

not_passed_before : (z : Entry) (number : ℕ) (showed : Option Shown) (past : List Entry)
    → ((sh : Shown) → z ≡ Showed number sh → ⊥) → Stands z (noted (showed_entries number showed) past) → Stands z past
not_passed_before z number None past other a = a
not_passed_before z number (Some sh) past other (inl same) = absurd (other sh same)
not_passed_before z number (Some sh) past other (inr a) = a

before_showed : (t number : ℕ) (showed : Option Shown) (past : List Entry)
    → before_start t (noted (showed_entries number showed) past) ≡ before_start t past
unfolding before_start
before_showed t number None past = refl
before_showed t number (Some sh) past = refl

newer_showed : (t x : ℕ) (v : Version) (number : ℕ) (showed : Option Shown) (past : List Entry)
    → ((sh : Shown) → showed ≡ Some sh → number ≡ t → sh.object ≡ x → IsNewer v sh.version) → NewerThanShown t x v past
    → NewerThanShown t x v (noted (showed_entries number showed) past)
newer_showed t x v number None past newer a = a
newer_showed t x v number (Some sh) past newer a = (newer sh refl, a)

well_showed : (number : ℕ) (showed : Option Shown) (past : List Entry)
    → ((sh : Shown) → showed ≡ Some sh → Stands (Passed sh) past × NotOlderThanShown number sh.object sh.version past
    × NewerThanShown number sh.object sh.version past) → ShownWell past
    → ShownWell (noted (showed_entries number showed) past)
well_showed number None past fits well = well
well_showed number (Some sh) past fits well = (fits sh refl, well)

module _ (h : Hierarchy) (past : List Entry) (w : World) (number : ℕ) (s : Station) (showed : Option Shown)
    (passed : List Shown) (known : Shows h past w) (a : Acts h past w number s showed passed) where
  abbrev middle : List Entry
  middle = noted (showed_entries number showed) past

  abbrev trace : List Entry
  trace = noted (map entry.Passed passed) middle

  abbrev next : World
  next = with_station w number s

  abbrev boot_ : ℕ
  boot_ = (w.stations number).grants.boot

  -- what holds of this station and of each other one
  each : (P : ℕ → Station → Type 0) → P number s → ((m : ℕ) → (m ≡ number → ⊥) → P m (w.stations m)) → (m : ℕ)
      → P m (next.stations m)
  each = at_stations w.stations number s

  boots : (m : ℕ) → (next.stations m).grants.boot ≡ (w.stations m).grants.boot
  boots = each (λ m z. z.grants.boot ≡ (w.stations m).grants.boot) a.boot (λ m o. refl)

  stands : (z : Entry) → Stands z past → Stands z trace
  stands z at = stands_noted z (map entry.Passed passed) middle (stands_noted z (showed_entries number showed) past at)

  -- what was passed is one of these, or was passed before
  was_passed : (x : ℕ) (u : Version) (q : ℕ) → Stands (Passed (state_of x u q)) trace
      → In (state_of x u q) passed ⊎ Stands (Passed (state_of x u q)) past
  was_passed x u q at = elim (from_passed_all x u q passed middle at) [
    | inl new ↦ inl new
    | inr old ↦ inr (not_passed_before (Passed (state_of x u q)) number showed past (λ sh i. absurd cc) old)
  ]

  kept_by : (x : ℕ) (c : Condition) → s.display.conditions x ≡ Some c → is_kept_by h number x ≡ true
  kept_by x c is = elim (a.changes x) [
    | inl same ↦ known.kept number x c (sym same ∙ is)
    | inr changed ↦ known.kept number x changed.0.before changed.0.was
  ]

  one_after : (x : ℕ) (c : Condition) → s.display.conditions x ≡ Some c
      → (n : Next ((w.stations number).display.conditions x) (s.display.conditions x)) → n.after ≡ c
  one_after x c is n = let i : Some n.after ≡ Some c = sym n.is ∙ is in cc

  passed_here : (x : ℕ) (c : Condition) → s.display.conditions x ≡ Some c
      → Stands (Passed (shown s.grants.boot x c)) trace
  passed_here x c is = subst (λ b. Stands (Passed (shown b x c)) trace) (sym a.boot) (elim (a.changes x) [
    | inl same ↦ stands (Passed (shown boot_ x c)) (known.passed number x c (sym same ∙ is))
    | inr changed ↦
        subst (λ z. Stands (Passed (shown boot_ x z)) trace) (one_after x c is changed.0)
        (stands_new (Passed (shown boot_ x changed.0.after)) (map entry.Passed passed) middle
        (in_mapped entry.Passed (shown boot_ x changed.0.after) passed changed.1))
  ])

  -- the next condition is newer than all before
  newer_than_before : (x : ℕ) (n : Next ((w.stations number).display.conditions x) (s.display.conditions x))
      (u : Version) (q : ℕ) → Stands (Passed (state_of x u q)) past → IsNewer (shown boot_ x n.after).version u
  newer_than_before x n u q at =
      newer_than (shown boot_ x n.after).version (shown boot_ x n.before).version u
      (is_newer_by (shown boot_ x n.after).version (shown boot_ x n.before).version
      (let i = n.next in inr (refl, omega (arith, i))))
      (known.newest number x n.before n.was u q at)

  -- what was passed now is the condition now
  passed_now : (x : ℕ) (u : Version) (q : ℕ) → In (state_of x u q) passed → (c : Condition)
      → s.display.conditions x ≡ Some c → (shown boot_ x c).version ≡ u
  passed_now x u q new c is =
      let b = a.from_passed (state_of x u q) new in
      let i : n_after b.0 ≡ c = one_after x c is b.0 in
      ap (λ z. (shown boot_ x z).version) (sym i) ∙ sym (ap (λ (z : Shown). z.version) b.1)
    where
      n_after : {o p : Option Condition} → Next o p → Condition
      n_after n = n.after

  newest_here : (x : ℕ) (c : Condition) → s.display.conditions x ≡ Some c
      → IsNewest (shown s.grants.boot x c).version x trace
  newest_here x c is = subst (λ b. IsNewest (shown b x c).version x trace) (sym a.boot) it
    where
      it : IsNewest (shown boot_ x c).version x trace
      it u q at = elim (was_passed x u q at) [
        | inl new ↦ inr (passed_now x u q new c is)
        | inr old ↦ elim (a.changes x) [
          | inl same ↦ known.newest number x c (sym same ∙ is) u q old
          | inr changed ↦
              inl (subst (λ z. IsNewer (shown boot_ x z).version u) (one_after x c is changed.0)
              (newer_than_before x changed.0 u q old))
        ]
      ]

  -- what this station passed on is an object of its own
  passed_own : (x : ℕ) (u : Version) (q : ℕ) → In (state_of x u q) passed → is_kept_by h number x ≡ true
  passed_own x u q new = let b = a.from_passed (state_of x u q) new in known.kept number x b.0.before b.0.was

  newest_there : (m : ℕ) → (m ≡ number → ⊥) → (x : ℕ) (c : Condition) → (w.stations m).display.conditions x ≡ Some c
      → IsNewest (shown (w.stations m).grants.boot x c).version x trace
  newest_there m o x c is u q at = elim (was_passed x u q at) [
    | inl new ↦ absurd (o (kept_once h m number x (known.kept m x c is) (passed_own x u q new)))
    | inr old ↦ known.newest m x c is u q old
  ]

  bounded : (x : ℕ) (u : Version) (q : ℕ) → Stands (Passed (state_of x u q)) trace → (m : ℕ)
      → is_kept_by h m x ≡ true → u.boot ≤ (w.stations m).grants.boot
  bounded x u q at m kept = elim (was_passed x u q at) [
    | inl new ↦
        let b = a.from_passed (state_of x u q) new in
        let i : u ≡ (shown boot_ x b.0.after).version = ap (λ (z : Shown). z.version) b.1 in
        let j : m ≡ number = kept_once h m number x kept (passed_own x u q new) in
        let k : u.boot ≡ (w.stations m).grants.boot = ap (λ (z : Version). z.boot) i
        ∙ ap (λ z. (w.stations z).grants.boot) (sym j) in
        omega (arith, k)
    | inr old ↦ known.bound x u q old m kept
  ]

  told_well : (m : Message) (x echo : ℕ) (v : Version) (q : ℕ) → IsSent m w.sent → m.body ≡ body.State x echo v q
      → ToldWell trace m.to x echo v q (w.stations m.to).grants.boot
  told_well m x echo v q sent is =
      let t = known.states m x echo v q sent is in
      record {
        passed = stands (Passed (state_of x v q)) t.passed;
        within = t.within;
        since = λ i. subst (NotOlderThanShown m.to x v)
            (sym (before_passed_all m.to passed middle ∙ before_showed m.to number showed past)) (t.since i);
      }

  last_here : (x : ℕ) (v : Version) → is_newer_than_last (s.display.shown x) v ≡ true → NewerThanShown number x v trace
  last_here x v is = newer_passed_all number x v passed middle
      (newer_showed number x v number showed past (λ sh i same object. a.newer x v is sh i object)
      (known.last number x v (a.table x v is)))

  last_there : (m : ℕ) → (m ≡ number → ⊥) → (x : ℕ) (v : Version)
      → is_newer_than_last ((w.stations m).display.shown x) v ≡ true → NewerThanShown m x v trace
  last_there m o x v is = newer_passed_all m x v passed middle
      (newer_showed m x v number showed past (λ sh i same object. absurd (o (sym same))) (known.last m x v is))

  all_well : ShownWell trace
  all_well = well_passed passed middle a.apart newer_ (well_showed number showed past fits known.well)
    where
      newer_ : (v : Shown) → In v passed → (u : Version) (q : ℕ) → Stands (Passed (state_of v.object u q)) middle
          → IsNewer v.version u
      newer_ v new u q at =
          let b = a.from_passed v new in
          let old = not_passed_before (Passed (state_of v.object u q)) number showed past (λ sh i. absurd cc) at in
          subst (λ (z : Shown). IsNewer z.version u) (sym b.1) (newer_than_before v.object b.0 u q old)

      fits : (sh : Shown) → showed ≡ Some sh → Stands (Passed sh) past
          × NotOlderThanShown number sh.object sh.version past × NewerThanShown number sh.object sh.version past
      fits sh is =
          let newer = known.last number sh.object sh.version (a.first sh is) in
          (a.told sh is, not_older_at_all number sh.object sh.version past newer (a.since sh is), newer)

  pub acted : Shows h trace next
  acted = record {
    kept = each (λ m z. (x : ℕ) (c : Condition) → z.display.conditions x ≡ Some c → is_kept_by h m x ≡ true) kept_by
        (λ m o. known.kept m);
    passed = each (λ m z. (x : ℕ) (c : Condition) → z.display.conditions x ≡ Some c
        → Stands (Passed (shown z.grants.boot x c)) trace) passed_here
        (λ m o x c is. stands (Passed (shown (w.stations m).grants.boot x c)) (known.passed m x c is));
    newest = each (λ m z. (x : ℕ) (c : Condition) → z.display.conditions x ≡ Some c
        → IsNewest (shown z.grants.boot x c).version x trace) newest_here newest_there;
    bound = λ x u q at m kept. subst (λ b. u.boot ≤ b) (sym (boots m)) (bounded x u q at m kept);
    watch = λ m x echo sent is. subst (λ b. echo ≤ b) (sym (boots m.from)) (known.watch m x echo sent is);
    watchers = each (λ m z. (x station echo : ℕ) → In (watcher station echo) (listed z.display.watchers x)
        → echo ≤ (next.stations station).grants.boot)
        (λ x station echo at. subst (λ b. echo ≤ b) (sym (boots station)) (elim (a.watchers x station echo at) [
          | inl old ↦ known.watchers number old.0 station echo old.1
          | inr new ↦ new
        ]))
        (λ m o x station echo at. subst (λ b. echo ≤ b) (sym (boots station)) (known.watchers m x station echo at));
    states = λ m x echo v q sent is. subst (ToldWell trace m.to x echo v q) (sym (boots m.to))
        (told_well m x echo v q sent is);
    last = each (λ m z. (x : ℕ) (v : Version) → is_newer_than_last (z.display.shown x) v ≡ true
        → NewerThanShown m x v trace) last_here last_there;
    well = all_well;
  }
