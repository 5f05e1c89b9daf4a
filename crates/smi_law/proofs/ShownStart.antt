-- A start keeps what is known of the states that are shown.
use Rattle.std.proofs.Common.{ℕ, zero, suc, ◌≡◌, ◌≤◌, ◌+◌, ◌-◌, true, false, List, [], ◌∷◌, ◌⊎◌, inl, inr}
use Rattle.std.proofs.Common.{refl, sym, ap, ◌∙◌, subst, arith}
use Rattle.std.specs.Prelude.{◌==◌, Option, Some, None, option_map, map, replicate}
use Rattle.std.specs.Prelude.{slice_get, unwrap_or}
use Rattle.std.specs.List.{range_with_len}
use Rattle.std.proofs.lemmas.Bool.{eqb-true}
use Rattle.std.proofs.lemmas.Bool.Decides.{nat_tests}
use Rattle.smi_grant.specs.declared.Shown.{Shown}
use Rattle.smi_grant.specs.declared.Version.{Version}
use Rattle.smi_message.specs.declared.Body.TheVariants as body
use Rattle.smi_message.specs.Message.{Message}
use Rattle.smi_tree.specs.Hierarchy.{Hierarchy}
use Rattle.smi_tree.specs.Lawful.{IsTree}
use Rattle.smi_publish.specs.declared.condition.Condition.{Condition}
use Rattle.smi_publish.specs.Published.{shown, shown_at}
use Rattle.smi_tree.specs.Roles.{is_kept_by}
use Rattle.smi_publish.specs.Publishing.{first_condition}
use Rattle.smi_grant.proofs.Holders.{either}
use Rattle.smi_view.specs.Accepting.{is_newer_than_last}
use Rattle.smi_watchers.specs.declared.Watcher.{Watcher}
use Rattle.smi_watchers.specs.Watching.{watcher, listed}
use Rattle.smi_protocol.specs.Display.{Station}
use Rattle.smi_protocol.specs.Opening.{object_count, opened, all_shown}
use Rattle.smi_protocol.specs.declared.Entry.{Entry}
use Rattle.smi_protocol.specs.declared.Entry.TheVariants as entry_
use Rattle.smi_protocol.specs.declared.Entry.TheVariants.{Booted, Passed}
use Rattle.smi_protocol.proofs.KeptObjects.{first_kept, kept_within}
use Rattle.smi_law.specs.Safe.{IsNewer, NotOlderThanShown, NewerThanShown}
use Rattle.smi_protocol.specs.Schedule.{World}
use Rattle.smi_law.specs.Trace.{Stands}
use Rattle.smi_law.specs.World.{Among as IsSent, with_station, noted}
use Rattle.smi_law.proofs.Stations.{at_stations}
use Rattle.smi_law.proofs.Lists.{In, in_mapped, in_chosen, from_chosen, in_range, Apart, apart_range, apart_chosen}
use Rattle.smi_law.proofs.Lists.{stands_noted, stands_new}
use Rattle.smi_law.proofs.Shows.{state_of, ToldWell, IsNewest, Shows, object_of, well_passed, before_start_there}
use Rattle.smi_law.proofs.Shows.{before_passed_all, newer_passed_all, from_passed_all}
use Rattle.smi_law.proofs.ShownStep.{kept_once}
use Rattle.smi_law.proofs.Versions.{is_newer_by}

-- The objects of a station that starts.

shown_named : (boot : ℕ) (conditions : ℕ → Option Condition) (x : ℕ) (v : Shown)
    → shown_at boot conditions x ≡ Some v → (c : Condition) × (conditions x ≡ Some c) × (v ≡ shown boot x c)
shown_named boot conditions x v is = by (conditions x) refl is
  where
    by : (o : Option Condition) → conditions x ≡ o → option_map (shown boot x) o ≡ Some v
        → (c : Condition) × (conditions x ≡ Some c) × (v ≡ shown boot x c)
    by None at i = absurd cc
    by (Some c) at i = (c, at, cc)

pub none_listed : (count x : ℕ) (w : Watcher) → In w (listed (replicate count []) x) → ⊥
none_listed count x w a = none count (x - 1) a
  where
    none : (n i : ℕ) → In w (unwrap_or (slice_get (replicate n []) i) []) → ⊥
    none zero i b = nothing i b
      where
        nothing : (j : ℕ) → In w (unwrap_or (slice_get [] j) []) → ⊥
        nothing j k = k
    none (suc n) zero b = b
    none (suc n) (suc i) b = none n i b

module _ (h : Hierarchy) (tree : IsTree h) (past : List Entry) (w : World) (number : ℕ) (known : Shows h past w) where
  abbrev before : ℕ
  before = (w.stations number).grants.boot

  abbrev started : Station
  started = opened h number (w.stations number).grants

  abbrev boot_ : ℕ
  boot_ = before + 1

  abbrev next : World
  next = with_station w number started

  abbrev vs : List Shown
  vs = all_shown h started

  abbrev middle : List Entry
  middle = Booted number boot_ ∷ past

  abbrev trace : List Entry
  trace = noted (map entry_.Passed vs) middle

  each : (P : ℕ → Station → Type 0) → P number started → ((m : ℕ) → (m ≡ number → ⊥) → P m (w.stations m)) → (m : ℕ)
      → P m (next.stations m)
  each = at_stations w.stations number started

  boots : (m : ℕ) → (w.stations m).grants.boot ≤ (next.stations m).grants.boot
  boots = each (λ m z. (w.stations m).grants.boot ≤ z.grants.boot) (omega arith) (λ m o. omega arith)

  boot_here : (m : ℕ) → m ≡ number → (next.stations m).grants.boot ≡ boot_
  boot_here m is = each (λ k z. k ≡ number → z.grants.boot ≡ boot_) (λ i. refl) (λ k o i. absurd (o i)) m is

  boot_there : (m : ℕ) → (m ≡ number → ⊥) → (next.stations m).grants.boot ≡ (w.stations m).grants.boot
  boot_there m o = each (λ k z. (k ≡ number → ⊥) → z.grants.boot ≡ (w.stations k).grants.boot) (λ f. absurd (f refl))
      (λ k f g. refl) m o

  stands : (z : Entry) → Stands z past → Stands z trace
  stands z at = stands_noted z (map entry_.Passed vs) middle (inr at)

  in_shown : (x : ℕ) (c : Condition) → first_condition h number x ≡ Some c → In (shown boot_ x c) vs
  in_shown x c is =
      let within = kept_within h tree number x (first_kept h number x c is) in
      in_chosen (shown_at boot_ (first_condition h number)) x (shown boot_ x c) (range_with_len 1 (object_count h))
      (in_range x 1 (object_count h) within.0 within.1) (ap (option_map (shown boot_ x)) is)

  from_shown : (v : Shown) → In v vs → (c : Condition) × (first_condition h number v.object ≡ Some c)
      × (v ≡ shown boot_ v.object c)
  from_shown v a =
      let b = from_chosen (shown_at boot_ (first_condition h number)) v (range_with_len 1 (object_count h)) a in
      let c = shown_named boot_ (first_condition h number) b.0 v b.2 in
      let i : v.object ≡ b.0 = ap object_of c.2 in
      subst (λ z. (k : Condition) × (first_condition h number z ≡ Some k) × (v ≡ shown boot_ z k)) (sym i) c

  apart : Apart object_of vs
  apart = apart_chosen (shown_at boot_ (first_condition h number)) object_of
      (λ n y is. let c = shown_named boot_ (first_condition h number) n y is in ap object_of c.2)
      (range_with_len 1 (object_count h)) (apart_range 1 (object_count h))

  was_passed : (x : ℕ) (u : Version) (q : ℕ) → Stands (Passed (state_of x u q)) trace
      → In (state_of x u q) vs ⊎ Stands (Passed (state_of x u q)) past
  was_passed x u q at = elim (from_passed_all x u q vs middle at) [
    | inl new ↦ inl new
    | inr old ↦ elim old [ inl same ↦ absurd cc | inr earlier ↦ inr earlier ]
  ]

  -- all that was passed before is older
  older : (x : ℕ) (c : Condition) → is_kept_by h number x ≡ true → (u : Version) (q : ℕ)
      → Stands (Passed (state_of x u q)) past → IsNewer (shown boot_ x c).version u
  older x c kept u q at =
      let b = known.bound x u q at number kept in
      is_newer_by (shown boot_ x c).version u (inl (omega (arith, b)))

  one_condition : (x : ℕ) (u : Version) (q : ℕ) → In (state_of x u q) vs → (c : Condition)
      → first_condition h number x ≡ Some c → (shown boot_ x c).version ≡ u
  one_condition x u q new c is =
      let b = from_shown (state_of x u q) new in
      let i : Some b.0 ≡ Some c = sym b.1 ∙ is in
      let j : b.0 ≡ c = cc in
      ap (λ z. (shown boot_ x z).version) (sym j) ∙ sym (ap (λ (z : Shown). z.version) b.2)

  newest_here : (x : ℕ) (c : Condition) → first_condition h number x ≡ Some c
      → IsNewest (shown boot_ x c).version x trace
  newest_here x c is u q at = elim (was_passed x u q at) [
    | inl new ↦ inr (one_condition x u q new c is)
    | inr old ↦ inl (older x c (first_kept h number x c is) u q old)
  ]

  own : (x : ℕ) (u : Version) (q : ℕ) → In (state_of x u q) vs → is_kept_by h number x ≡ true
  own x u q new = let b = from_shown (state_of x u q) new in first_kept h number x b.0 b.1

  newest_there : (m : ℕ) → (m ≡ number → ⊥) → (x : ℕ) (c : Condition) → (w.stations m).display.conditions x ≡ Some c
      → IsNewest (shown (w.stations m).grants.boot x c).version x trace
  newest_there m o x c is u q at = elim (was_passed x u q at) [
    | inl new ↦ absurd (o (kept_once h m number x (known.kept m x c is) (own x u q new)))
    | inr old ↦ known.newest m x c is u q old
  ]

  bounded : (x : ℕ) (u : Version) (q : ℕ) → Stands (Passed (state_of x u q)) trace → (m : ℕ)
      → is_kept_by h m x ≡ true → u.boot ≤ (next.stations m).grants.boot
  bounded x u q at m kept = elim (was_passed x u q at) [
    | inl new ↦
        let b = from_shown (state_of x u q) new in
        let i : u.boot ≡ boot_ = ap (λ (z : Shown). z.version.boot) b.2 in
        let j = boot_here m (kept_once h m number x kept (own x u q new)) in
        omega (arith, i, j)
    | inr old ↦ let a = known.bound x u q old m kept in let b = boots m in omega (arith, a, b)
  ]

  told_well : (m : Message) (x echo : ℕ) (v : Version) (q : ℕ) → IsSent m w.sent → m.body ≡ body.State x echo v q
      → ToldWell trace m.to x echo v q (next.stations m.to).grants.boot
  told_well m x echo v q sent is =
      let t = known.states m x echo v q sent is in
      let within = t.within in
      let more = boots m.to in
      record {
        passed = stands (Passed (state_of x v q)) t.passed;
        within = omega (arith, within, more);
        since = λ i. elim (either (m.to == number)) [
          | inl it ↦
              let same = eqb-true m.to number it in
              let j = boot_here m.to same in
              let k : (w.stations m.to).grants.boot ≡ before = ap (λ z. (w.stations z).grants.boot) same in
              absurd (omega (arith, i, j, k, within))
          | inr f ↦
              let o = other m.to f in
              subst (NotOlderThanShown m.to x v)
              (sym (before_passed_all m.to vs middle ∙ before_start_there m.to number boot_ past (λ j. o (sym j))))
              (t.since (i ∙ boot_there m.to o))
        ];
      }
    where
      other : (k : ℕ) → (k == number) ≡ false → k ≡ number → ⊥
      other k f i = grind (arith, nat_tests)

  pub shows_started : Shows h trace next
  shows_started = record {
    kept = each (λ m z. (x : ℕ) (c : Condition) → z.display.conditions x ≡ Some c → is_kept_by h m x ≡ true)
        (first_kept h number) (λ m o. known.kept m);
    passed = each (λ m z. (x : ℕ) (c : Condition) → z.display.conditions x ≡ Some c
        → Stands (Passed (shown z.grants.boot x c)) trace)
        (λ x c is. stands_new (Passed (shown boot_ x c)) (map entry_.Passed vs) middle
        (in_mapped entry_.Passed (shown boot_ x c) vs (in_shown x c is)))
        (λ m o x c is. stands (Passed (shown (w.stations m).grants.boot x c)) (known.passed m x c is));
    newest = each (λ m z. (x : ℕ) (c : Condition) → z.display.conditions x ≡ Some c
        → IsNewest (shown z.grants.boot x c).version x trace) newest_here newest_there;
    bound = bounded;
    watch = λ m x echo sent is. let a = known.watch m x echo sent is in let b = boots m.from in omega (arith, a, b);
    watchers = each (λ m z. (x station echo : ℕ) → In (watcher station echo) (listed z.display.watchers x)
        → echo ≤ (next.stations station).grants.boot)
        (λ x station echo at. absurd (none_listed (object_count h) x (watcher station echo) at))
        (λ m o x station echo at. let a = known.watchers m x station echo at in let b = boots station in
        omega (arith, a, b));
    states = told_well;
    last = each (λ m z. (x : ℕ) (v : Version) → is_newer_than_last (z.display.shown x) v ≡ true
        → NewerThanShown m x v trace)
        (λ x v is. newer_passed_all number x v vs middle (inl refl))
        (λ m o x v is. newer_passed_all m x v vs middle (inr (known.last m x v is)));
    well = well_passed vs middle apart
        (λ v new u q at. elim at [
          | inl same ↦ absurd cc
          | inr old ↦
              let b = from_shown v new in
              subst (λ (z : Shown). IsNewer z.version u) (sym b.2)
              (older v.object b.0 (first_kept h number v.object b.0 b.1) u q old)
        ])
        (tt, known.well);
  }
