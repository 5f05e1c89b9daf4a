-- What a station makes of what comes, as far as states go.
use Rattle.std.proofs.Common.{ℕ, ◌≡◌, ◌≤◌, ◌+◌, Bool, true, false, List, [], ◌⊎◌, inl, inr, refl, sym, ap, ◌∙◌, subst}
use Rattle.std.proofs.Common.{arith}
use Rattle.std.specs.Prelude.{◌==◌, ◌&&◌, nat_lt, not, Option, Some, None, option_map, if◌then◌else◌}
use Rattle.std.proofs.lemmas.Bool.{eqb-true}
use Rattle.std.proofs.lemmas.Bool.Decides.{nat_tests}
use Rattle.smi_grant.specs.declared.Shown.{Shown}
use Rattle.smi_grant.specs.declared.Version.{Version}
use Rattle.smi_message.specs.declared.Body.{Body}
use Rattle.smi_message.specs.declared.Body.TheVariants as body
use Rattle.smi_message.specs.Message.{Message}
use Rattle.smi_base.specs.Between.{is_between}
use Rattle.smi_tree.specs.Hierarchy.{Hierarchy}
use Rattle.smi_tree.specs.Lawful.{IsTree}
use Rattle.smi_tree.specs.Lookups.{station_count}
use Rattle.smi_publish.specs.declared.condition.Condition.{Condition}
use Rattle.smi_publish.specs.Published.{condition, shown, shown_at, differs, change_at}
use Rattle.smi_grant.proofs.Holders.{either}
use Rattle.smi_view.specs.declared.Acceptance.{Acceptance}
use Rattle.smi_view.specs.declared.Acceptance.TheVariants.{Accepted, OtherBoot, NotNewer}
use Rattle.smi_view.specs.Accepting.{is_newer_than_last, acceptance, last_after}
use Rattle.smi_watchers.specs.declared.Watcher.{Watcher}
use Rattle.smi_watchers.specs.Watching.{watcher, listed}
use Rattle.smi_protocol.specs.Display.{Display, Station}
use Rattle.smi_protocol.specs.GrantsOf.{grant_step}
use Rattle.smi_protocol.specs.Happening.{Happening, Comes, Orders, Reports, Ticks}
use Rattle.smi_protocol.specs.Refusals.{is_body_of, refusal_of_message, refusal_of}
use Rattle.smi_protocol.specs.Showing.{domain_of_happening, passed_in}
use Rattle.smi_protocol.specs.Step.{body_noticed, notice, conditions_after, answered_or}
use Rattle.smi_protocol.specs.Watching.{Notice, unnoticed, is_watched, watch_comes, unwatch_comes}
use Rattle.smi_tree.specs.Roles.{is_child_unit}
use Rattle.smi_protocol.specs.Watching.{told_state, showed_if, state_comes, order_noticed}
use Rattle.smi_protocol.specs.declared.Entry.{Entry}
use Rattle.smi_protocol.specs.declared.Entry.TheVariants.{Passed}
use Rattle.smi_protocol.specs.declared.Order.{Order}
use Rattle.smi_protocol.specs.declared.Order.TheVariants as order
use Rattle.smi_law.specs.Safe.{IsNewer, NotOlderThanShown}
use Rattle.smi_protocol.specs.Schedule.{World}
use Rattle.smi_law.specs.Trace.{Stands, before_start}
use Rattle.smi_law.specs.World.{Among as IsSent, MayCome}
use Rattle.smi_law.proofs.Conditions.{Changed, objects_of, Follows, all_follows}
use Rattle.smi_law.proofs.Lists.{In, in_chosen, from_chosen, Apart, apart_chosen}
use Rattle.smi_law.proofs.Shows.{ToldWell, Shows, object_of}
use Rattle.smi_law.proofs.ShownStep.{Next, Acts}
use Rattle.smi_law.proofs.Silent.{kept_silent}
use Rattle.smi_law.proofs.Versions.{newer_than, from_watched, from_unwatched, Somewhere}

-- A datagram that is not refused has reached its receiver.

abbrev first_of : Bool → Option ℕ → Option ℕ
first_of b rest = if b then Some 7 else rest

abbrev second_of : Bool → Option ℕ → Option ℕ
second_of b rest = if b then Some 8 else rest

abbrev choice : Bool → Bool → Acceptance
choice a b = if a then (if b then Accepted else NotNewer) else OtherBoot

abbrev third_of : Bool → Option ℕ
third_of b = if b then None else Some 9

pub addressed : (h : Hierarchy) (number : ℕ) (m : Message) → refusal_of_message h number m ≡ None → m.to ≡ number
addressed h number m none = by (not (m.tree == h.number)) none
  where
    there : (b : Bool) → not b ≡ false → b ≡ true
    there true i = refl
    there false i = absurd cc

    last : (b : Bool) → not (m.to == number) ≡ b
        → second_of b (third_of (is_between 1 (station_count h) m.from && is_body_of h m.from m.to m.body)) ≡ None
        → m.to ≡ number
    last true is i = absurd cc
    last false is i = eqb-true m.to number (there (m.to == number) is)

    by : (b : Bool)
        → first_of b (second_of (not (m.to == number))
        (third_of (is_between 1 (station_count h) m.from && is_body_of h m.from m.to m.body))) ≡ None → m.to ≡ number
    by true i = absurd cc
    by false i = last (not (m.to == number)) refl i

-- What is noticed.

module _ (h : Hierarchy) (past : List Entry) (w : World) (number : ℕ) (known : Shows h past w) where
  abbrev S : Display
  S = (w.stations number).display

  abbrev boot_ : ℕ
  boot_ = (w.stations number).grants.boot

  pub record Noted (n : Notice) : Type 0 where
    pub watchers : (x station echo : ℕ) → In (watcher station echo) (listed n.display.watchers x)
        → Somewhere (watcher station echo) S.watchers ⊎ (echo ≤ (w.stations station).grants.boot)
    pub table : (x : ℕ) (v : Version) → is_newer_than_last (n.display.shown x) v ≡ true
        → is_newer_than_last (S.shown x) v ≡ true
    pub newer : (x : ℕ) (v : Version) → is_newer_than_last (n.display.shown x) v ≡ true → (sh : Shown)
        → n.showed ≡ Some sh → sh.object ≡ x → IsNewer v sh.version
    pub told : (sh : Shown) → n.showed ≡ Some sh → Stands (Passed sh) past
    pub first : (sh : Shown) → n.showed ≡ Some sh → is_newer_than_last (S.shown sh.object) sh.version ≡ true
    pub since : (sh : Shown) → n.showed ≡ Some sh
        → NotOlderThanShown number sh.object sh.version (before_start number past)

  -- nothing is shown, and the watchers may
  watched_by : (n : Notice) → n.showed ≡ None → n.display.shown ≡ S.shown
      → ((x station echo : ℕ) → In (watcher station echo) (listed n.display.watchers x)
      → Somewhere (watcher station echo) S.watchers ⊎ (echo ≤ (w.stations station).grants.boot)) → Noted n
  watched_by n none same watchers_ = record {
    watchers = watchers_;
    table = λ x v is. subst (λ (z : ℕ → Option Shown). is_newer_than_last (z x) v ≡ true) same is;
    newer = λ x v is sh i object. absurd (nothing sh i);
    told = λ sh i. absurd (nothing sh i);
    first = λ sh i. absurd (nothing sh i);
    since = λ sh i. absurd (nothing sh i);
  }
    where
      nothing : (sh : Shown) → n.showed ≡ Some sh → ⊥
      nothing sh i = let j : None ≡ Some sh = sym none ∙ i in cc

  -- nothing changes of what is watched and shown
  calm : (n : Notice) → n.showed ≡ None → n.display.shown ≡ S.shown → n.display.watchers ≡ S.watchers → Noted n
  calm n none same lists = watched_by n none same
      (λ x station echo at. inl (x, subst (λ z. In (watcher station echo) (listed z x)) lists at))

  new_watcher : (m : Message) (x echo : ℕ) → IsSent m w.sent → m.body ≡ body.Watch x echo → (station e : ℕ)
      → watcher station e ≡ watcher m.from echo → e ≤ (w.stations station).grants.boot
  new_watcher m x echo sent is station e new =
      let a : station ≡ m.from = ap (λ (z : Watcher). z.station) new in
      let b : e ≡ echo = ap (λ (z : Watcher). z.echo) new in
      let c = known.watch m x echo sent is in
      subst (λ z. e ≤ (w.stations z).grants.boot) (sym a) (omega (arith, b, c))

  watch_noted : (m : Message) (x echo : ℕ) → IsSent m w.sent → m.body ≡ body.Watch x echo
      → Noted (watch_comes h number boot_ S m.from x echo)
  watch_noted m x echo sent is = elim (either (nat_lt echo (S.echoes m.from))) [
    | inl t ↦ rw t (calm (unnoticed S) refl refl refl)
    | inr f ↦ rw f
        (watched_by _ refl refl (λ y station e at. elim (from_watched S m.from x echo y (watcher station e) at) [
          | inl old ↦ inl old
          | inr new ↦ inr (new_watcher m x echo sent is station e new)
        ]))
  ]

  unwatch_noted : (from x echo : ℕ) → Noted (unwatch_comes S from x echo)
  unwatch_noted from x echo = watched_by (unwatch_comes S from x echo) refl refl
      (λ y station e at. inl (from_unwatched S.watchers from x echo y (watcher station e) at))

  accepted_is : (last : Option Shown) (echo : ℕ) (v : Version) → acceptance boot_ last echo v ≡ Accepted
      → (echo ≡ boot_) × (is_newer_than_last last v ≡ true)
  accepted_is last echo v is = by (echo == boot_) refl (is_newer_than_last last v) refl is
    where
      by : (a : Bool) → (echo == boot_) ≡ a → (b : Bool) → is_newer_than_last last v ≡ b → choice a b ≡ Accepted
          → (echo ≡ boot_) × (is_newer_than_last last v ≡ true)
      by true i true j k = (eqb-true echo boot_ i, j)
      by true i false j k = absurd cc
      by false i b j k = absurd cc

  showed_noted : (m : Message) (x echo : ℕ) (v : Version) (q : ℕ) → m.to ≡ number → IsSent m w.sent
      → m.body ≡ body.State x echo v q → (a : Acceptance) → acceptance boot_ (S.shown x) echo v ≡ a
      → Noted (showed_if S (told_state x v q) a)
  showed_noted m x echo v q to sent is OtherBoot i = calm (unnoticed S) refl refl refl
  showed_noted m x echo v q to sent is NotNewer i = calm (unnoticed S) refl refl refl
  showed_noted m x echo v q to sent is Accepted i = record {
    watchers = λ y station e at. inl (y, at);
    table = λ y u is'. by_object y u is';
    newer = λ y u is' sh j object. newer_ y u is' sh j object;
    told = λ sh j. subst (λ z. Stands (Passed z) past) (one sh j) told_.passed;
    first = λ sh j. subst (λ (z : Shown). is_newer_than_last (S.shown z.object) z.version ≡ true) (one sh j) parts.1;
    since = λ sh j. subst (λ (z : Shown). NotOlderThanShown number z.object z.version (before_start number past))
        (one sh j)
        (subst (λ z. NotOlderThanShown z x v (before_start z past)) to
        (told_.since (parts.0 ∙ ap (λ z. (w.stations z).grants.boot) (sym to))));
  }
    where
      parts : (echo ≡ boot_) × (is_newer_than_last (S.shown x) v ≡ true)
      parts = accepted_is (S.shown x) echo v i

      told_ : ToldWell past m.to x echo v q (w.stations m.to).grants.boot
      told_ = known.states m x echo v q sent is

      one : (sh : Shown) → Some (told_state x v q) ≡ Some sh → told_state x v q ≡ sh
      one sh j = cc

      further : (last : Option Shown) → is_newer_than_last last v ≡ true → (u : Version) → IsNewer u v
          → is_newer_than_last last u ≡ true
      further None f u n = refl
      further (Some sh) f u n = newer_than u v sh.version n (inl f)

      by_object : (y : ℕ) (u : Version) → is_newer_than_last (last_after S.shown Accepted (told_state x v q) y) u
          ≡ true → is_newer_than_last (S.shown y) u ≡ true
      by_object y u = choose (y == x) refl
        where
          choose : (b : Bool) → (y == x) ≡ b → is_newer_than_last (if b then Some (told_state x v q) else S.shown y)
              u ≡ true → is_newer_than_last (S.shown y) u ≡ true
          choose true t n = subst (λ z. is_newer_than_last (S.shown z) u ≡ true) (sym (eqb-true y x t))
              (further (S.shown x) parts.1 u n)
          choose false t n = n

      newer_ : (y : ℕ) (u : Version) → is_newer_than_last (last_after S.shown Accepted (told_state x v q) y) u ≡ true
          → (sh : Shown) → Some (told_state x v q) ≡ Some sh → sh.object ≡ y → IsNewer u sh.version
      newer_ y u n sh j object =
          let a = one sh j in
          let b : x ≡ y = ap (λ (z : Shown). z.object) a ∙ object in
          subst (λ (z : Shown). IsNewer u z.version) a (here (y == x) (same_number y x (sym b)) n)
        where
          same_number : (m' n' : ℕ) → m' ≡ n' → (m' == n') ≡ true
          same_number m' n' k = grind (arith, nat_tests)

          here : (b : Bool) → b ≡ true → is_newer_than_last (if b then Some (told_state x v q) else S.shown y) u
              ≡ true → IsNewer u v
          here true t n' = n'
          here false t n' = absurd cc

  state_noted : (m : Message) (x echo : ℕ) (v : Version) (q : ℕ) → m.to ≡ number → IsSent m w.sent
      → m.body ≡ body.State x echo v q → Noted (state_comes h number boot_ S m.from echo (told_state x v q))
  state_noted m x echo v q to sent is = elim (either (not (echo == boot_))) [
    | inl t ↦ rw t (calm (unnoticed S) refl refl refl)
    | inr f ↦ rw f (elim (either (is_watched h number S x)) [
      | inl t ↦ rw t (showed_noted m x echo v q to sent is (acceptance boot_ (S.shown x) echo v) refl)
      | inr g ↦ rw g (calm _ refl refl refl)
    ])
  ]

  order_noted : (o : ℕ) (what : Order) → Noted (order_noticed h number boot_ S o what)
  order_noted o (order.Ask d) = calm _ refl refl refl
  order_noted o (order.Watch x) = calm _ refl refl refl
  order_noted o (order.Unwatch x) = elim (either (is_child_unit h number x))
      [ inl t ↦ rw t (calm _ refl refl refl) | inr f ↦ rw f (calm _ refl refl refl) ]
  order_noted o (order.Take d) = calm _ refl refl refl
  order_noted o (order.Drop d) = calm _ refl refl refl
  order_noted o (order.Do d a) = calm _ refl refl refl
  order_noted o (order.Include d t) = calm _ refl refl refl
  order_noted o (order.Exclude d t) = calm _ refl refl refl
  order_noted o (order.Manual d t) = calm _ refl refl refl
  order_noted o (order.Ignore d t) = calm _ refl refl refl
  order_noted o (order.Report device s) = calm _ refl refl refl

  body_noted : (m : Message) → m.to ≡ number → IsSent m w.sent → (b : Body) → m.body ≡ b
      → Noted (body_noticed h number boot_ S m.from b)
  body_noted m to sent (body.Tell d r) is = calm _ refl refl refl
  body_noted m to sent (body.Watch x echo) is = watch_noted m x echo sent is
  body_noted m to sent (body.State x echo v q) is = state_noted m x echo v q to sent is
  body_noted m to sent (body.Unwatch x echo) is = unwatch_noted m.from x echo
  body_noted m to sent (body.Ask d) is = calm _ refl refl refl
  body_noted m to sent (body.Take d who seen) is = calm _ refl refl refl
  body_noted m to sent (body.Drop d who e) is = calm _ refl refl refl
  body_noted m to sent (body.Run d who e n c) is = calm _ refl refl refl

  noted_ : (what : Happening) → MayCome w what → refusal_of h number (w.stations number).grants what ≡ None
      → Noted (notice h number (w.stations number).grants S what)
  noted_ (Comes m) may none = body_noted m (addressed h number m none) may m.body refl
  noted_ (Orders o what) may none = order_noted o what
  noted_ (Reports device s) may none = calm _ refl refl refl
  noted_ Ticks may none = calm _ refl refl refl

  -- States that are passed on.

  change_named : (old new : ℕ → Option Condition) (x : ℕ) (v : Shown) → change_at boot_ old new x ≡ Some v
      → v.object ≡ x
  change_named old new x v is = by (differs (old x) (new x)) (new x) is
    where
      by : (b : Bool) (o : Option Condition) → (if b then option_map (shown boot_ x) o else None) ≡ Some v
          → v.object ≡ x
      by true None i = absurd cc
      by true (Some c) i = let j : shown boot_ x c ≡ v = cc in ap (λ (z : Shown). z.object) (sym j)
      by false o i = absurd cc

  module _ (old new : ℕ → Option Condition) where
    abbrev next_of : (x : ℕ) → Changed (old x) (new x) → Next (old x) (new x)
    next_of x c = record {
      before = c.before;
      after = condition c.state (c.before.sequence + 1);
      was = c.was;
      is = c.is;
      next = refl;
    }

    changed_at : (x : ℕ) (c : Changed (old x) (new x))
        → change_at boot_ old new x ≡ Some (shown boot_ x (next_of x c).after)
    changed_at x c =
        ap (λ o. if differs o (new x) then shown_at boot_ new x else None) c.was
        ∙ ap (λ o. if differs (Some c.before) o then option_map (shown boot_ x) o else None) c.is
        ∙ ap (λ b. if not b then Some (shown boot_ x (next_of x c).after) else None) c.other

    not_changed : (x : ℕ) (v : Shown) → new x ≡ old x → change_at boot_ old new x ≡ Some v → ⊥
    not_changed x v same is =
        by (old x) (sym (ap (λ o. if differs (old x) o then option_map (shown boot_ x) o else None) same) ∙ is)
      where
        self : (n : ℕ) → (n == n) ≡ true
        self n = grind (arith, nat_tests)

        by : (o : Option Condition) → (if differs o o then option_map (shown boot_ x) o else None) ≡ Some v → ⊥
        by None i = cc
        by (Some c) i = let j : None ≡ Some v = sym
            (ap (λ b. if not b then Some (shown boot_ x c) else None) (self c.state)) ∙ i in cc

    module _ (tree : IsTree h) where
      changes_ : (domain : Option ℕ) → Follows h tree old new domain → (x : ℕ)
          → (new x ≡ old x) ⊎ ((n : Next (old x) (new x))
          × In (shown boot_ x n.after) (passed_in h boot_ old new domain))
      changes_ None f x = elim (f.moves x) [ inl same ↦ inl same | inr c ↦ absurd c.1 ]
      changes_ (Some d) f x = elim (f.moves x) [
        | inl same ↦ inl same
        | inr c ↦ inr (
          next_of x c.0,
          in_chosen (change_at boot_ old new) x (shown boot_ x (next_of x c.0).after)
              (objects_of h d) c.1 (changed_at x c.0),
        )
      ]

      of_object : (x : ℕ) (v : Shown) → v.object ≡ x → change_at boot_ old new x ≡ Some v
          → (new x ≡ old x) ⊎ Changed (old x) (new x)
          → (n : Next (old v.object) (new v.object)) × (v ≡ shown boot_ v.object n.after)
      of_object x v named is (inl same) = absurd (not_changed x v same is)
      of_object x v named is (inr c) =
          let i : Some (shown boot_ x (next_of x c).after) ≡ Some v = sym (changed_at x c) ∙ is in
          let j : shown boot_ x (next_of x c).after ≡ v = cc in
          subst (λ z. (n : Next (old z) (new z)) × (v ≡ shown boot_ z n.after)) (sym named) (next_of x c, sym j)

      from_ : (domain : Option ℕ) → Follows h tree old new domain → (v : Shown)
          → In v (passed_in h boot_ old new domain) → (n : Next (old v.object) (new v.object))
          × (v ≡ shown boot_ v.object n.after)
      from_ None f v a = absurd a
      from_ (Some d) f v a =
          let b = from_chosen (change_at boot_ old new) v (objects_of h d) a in
          of_object b.0 v (change_named old new b.0 v b.2) b.2
          (elim (f.moves b.0) [ inl same ↦ inl same | inr c ↦ inr c.0 ])

      apart_ : (domain : Option ℕ) → Follows h tree old new domain → Apart object_of (passed_in h boot_ old new domain)
      apart_ None f = tt
      apart_ (Some d) f = apart_chosen (change_at boot_ old new) object_of (change_named old new) (objects_of h d)
          f.apart

  -- All that an accepted step does to states.

  pub acts : (tree : IsTree h) (what : Happening) → MayCome w what
      → refusal_of h number (w.stations number).grants what ≡ None
      → Acts h past w number (answered_or h number (w.stations number) what None).station
      (notice h number (w.stations number).grants S what).showed
      (passed_in h boot_ S.conditions (conditions_after h (w.stations number)
      (grant_step h number (w.stations number).grants what).grants
      (notice h number (w.stations number).grants S what).display what) (domain_of_happening h what))
  acts tree what may none =
      let n = noted_ what may none in
      let new = conditions_after h (w.stations number) (grant_step h number (w.stations number).grants what).grants
      (notice h number (w.stations number).grants S what).display what in
      let follows = all_follows h tree (w.stations number)
      (grant_step h number (w.stations number).grants what).grants
      (notice h number (w.stations number).grants S what).display number what none in
      record {
        boot = (kept_silent h number (w.stations number) what None).boot;
        changes = changes_ S.conditions new tree (domain_of_happening h what) follows;
        from_passed = from_ S.conditions new tree (domain_of_happening h what) follows;
        apart = apart_ S.conditions new tree (domain_of_happening h what) follows;
        watchers = n.watchers;
        table = n.table;
        newer = n.newer;
        told = n.told;
        first = n.first;
        since = n.since;
      }

  -- A station that changes nothing of what it shows.
  pub rests : (s : Station) → s.grants.boot ≡ boot_ → s.display ≡ S → Acts h past w number s None []
  rests s boot same = record {
    boot = boot;
    changes = λ x. inl (ap (λ (z : Display). z.conditions x) same);
    from_passed = λ v a. absurd a;
    apart = tt;
    watchers = λ x station echo a. inl (
      x,
      subst (λ (z : Display). In (watcher station echo) (listed z.watchers x))
          same a,
    );
    table = λ x v is. subst (λ (z : Display). is_newer_than_last (z.shown x) v ≡ true) same is;
    newer = λ x v is sh i object. absurd cc;
    told = λ sh i. absurd cc;
    first = λ sh i. absurd cc;
    since = λ sh i. absurd cc;
  }
