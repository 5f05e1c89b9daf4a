-- How the states of a station's objects change in a step, and that each change is passed on.
use Rattle.std.proofs.Common.{ℕ, zero, suc, ◌≡◌, ◌≤◌, ◌<◌, ◌+◌, ◌-◌, Bool, true, false, List, [], ◌∷◌, ◌⊎◌, inl, inr}
use Rattle.std.proofs.Common.{refl, sym, ap, ◌∙◌, subst, arith}
use Rattle.std.specs.Prelude.{◌==◌, ◌++◌, nat_le, Option, Some, None, option_map, option_and_then, map, length}
use Rattle.std.specs.Prelude.{slice_get, if◌then◌else◌}
use Rattle.std.specs.Option.{option_map_or}
use Rattle.std.proofs.lemmas.Bool.{and_parts, eqb-true, leb-true}
use Rattle.std.proofs.lemmas.Bool.Decides.{nat_tests}
use Rattle.smi_grant.specs.declared.Command.{Command}
use Rattle.smi_grant.specs.declared.Command.TheVariants.{Do, Include, Exclude, Manual, Ignore}
use Rattle.smi_grant.specs.Keeper.{admits}
use Rattle.smi_message.specs.declared.Body.{Body}
use Rattle.smi_message.specs.declared.Body.TheVariants as body
use Rattle.smi_tree.specs.declared.row.Domain.{Domain as DomainRow}
use Rattle.smi_tree.specs.declared.row.Device.{Device as DeviceRow}
use Rattle.smi_tree.specs.Hierarchy.{Hierarchy, entry, is_device_of}
use Rattle.smi_tree.specs.Lawful.{IsTree}
use Rattle.smi_tree.specs.Lookups.{domain_count, parent_of, station_of, devices_of, accepts, unit_state, moved}
use Rattle.smi_publish.specs.declared.condition.Condition.{Condition}
use Rattle.smi_publish.specs.Published.{condition}
use Rattle.smi_tree.specs.Roles.{domain_of, is_kept_by, is_number, is_keeper}
use Rattle.smi_publish.specs.Publishing.{come_to, reported, device_objects, is_among, acted}
use Rattle.smi_grant.proofs.Holders.{either}
use Rattle.smi_protocol.specs.Display.{Display, Station}
use Rattle.smi_protocol.specs.Grants.{Grants}
use Rattle.smi_protocol.specs.Happening.{Happening, Comes, Orders, Reports, Ticks}
use Rattle.smi_protocol.specs.Refusals.{is_body_of, refusal_of, is_report_here}
use Rattle.smi_protocol.specs.Showing.{Member, members_of, same_members, domain_of_body, domain_of_happening}
use Rattle.smi_protocol.specs.Showing.{moved_by_command, moved_by_body, followed}
use Rattle.smi_protocol.specs.Step.{conditions_by, conditions_after}
use Rattle.smi_law.proofs.Lists.{In, in_first, in_second, in_mapped, from_mapped, in_numbers, numbers_above, in_any}
use Rattle.smi_law.proofs.Lists.{Apart, same, apart_numbers, apart_moved, apart_added}
use Rattle.smi_law.proofs.Parents.{parents_are_lower}
use Rattle.smi_law.proofs.StepKinds.{understood}

-- One object.

-- it enters another state, with the next sequence
pub record Changed (old new : Option Condition) : Type 0 where
  pub before : Condition
  pub state : ℕ
  pub was : old ≡ Some before
  pub other : (before.state == state) ≡ false
  pub is : new ≡ Some (condition state (before.sequence + 1))

abbrev pub Moves : Option Condition → Option Condition → Type 0
Moves old new = (new ≡ old) ⊎ Changed old new

-- an object that enters a state stays unchanged, or changes
pub comes : (f : Condition → ℕ) (old : Option Condition) → Moves old (option_map (λ c. come_to (f c) c) old)
comes f None = inl refl
comes f (Some c) = elim (either (c.state == f c)) [
  | inl t ↦ inl (ap (λ b. Some (if b then c else condition (f c) (c.sequence + 1))) t)
  | inr o ↦ inr
      (record {
        before = c;
        state = f c;
        was = refl;
        other = o;
        is = ap (λ b. Some (if b then c else condition (f c) (c.sequence + 1))) o;
      })
]

abbrev or_refused : Bool → Option ℕ
or_refused b = if b then None else Some 26

-- The objects of a domain.

abbrev pub objects_of : Hierarchy → ℕ → List ℕ
objects_of h d = device_objects h d ++ d ∷ []

-- what moves lies among these objects
abbrev pub MovesAmong : List ℕ → (ℕ → Option Condition) → (ℕ → Option Condition) → Type 0
MovesAmong xs old new = (x : ℕ) → (new x ≡ old x) ⊎ (Changed (old x) (new x) × In x xs)

stays : (xs : List ℕ) (old : ℕ → Option Condition) → MovesAmong xs old old
stays xs old x = inl refl

acts : (h : Hierarchy) (old : ℕ → Option Condition) (d a : ℕ) → MovesAmong (device_objects h d) old (acted h old d a)
acts h old d a x = elim (either (is_among (device_objects h d) x)) [
  | inl t ↦ rw t (elim (comes (λ c. moved h (x - domain_count h) c.state a) (old x)) [
    | inl same_ ↦ inl same_
    | inr c ↦ inr (c, in_any x (device_objects h d) t)
  ])
  | inr f ↦ rw f (inl refl)
]

commands : (h : Hierarchy) (old : ℕ → Option Condition) (d : ℕ) (c : Command)
    → MovesAmong (device_objects h d) old (moved_by_command h old d c)
commands h old d (Do a) x = elim (either (accepts h d a)) [ inl t ↦ rw t (acts h old d a x) | inr f ↦ rw f (inl refl) ]
commands h old d (Include t) x = inl refl
commands h old d (Exclude t) x = inl refl
commands h old d (Manual t) x = inl refl
commands h old d (Ignore t) x = inl refl

-- a unit follows its members
follows : (h : Hierarchy) (one other : List Member) (old : ℕ → Option Condition) (d x : ℕ)
    → (followed h one other old d x ≡ old x) ⊎ (Changed (old x) (followed h one other old d x) × (x ≡ d))
follows h one other old d x = elim (either (same_members one other)) [
  | inl t ↦ rw t (inl refl)
  | inr f ↦ rw f (elim (either (x == d)) [
    | inl i ↦ rw i (elim (comes (λ c. unit_state h d c.state (map (λ m. m.state) other)) (old x)) [
      | inl same_ ↦ inl same_
      | inr c ↦ inr (c, eqb-true x d i)
    ])
    | inr o ↦ rw o (inl refl)
  ])
]

-- Domains and devices of a tree.

module _ (h : Hierarchy) (tree : IsTree h) where
  pub row_within : {X : Type 0} (rows : List X) (n : ℕ) (row : X) → entry rows n ≡ Some row
      → (1 ≤ n) × (n ≤ length rows)
  row_within {X = X} rows n row is = elim (either (n == 0)) [
    | inl t ↦ absurd (not_none (sym (ap (λ b. if b then None else slice_get rows (n - 1)) t) ∙ is))
    | inr f ↦ let at = within rows (n - 1) (sym (ap (λ b. if b then None else slice_get rows (n - 1)) f) ∙ is) in
        positive f at
  ]
    where
      not_none : None ≡ Some row → ⊥
      not_none i = cc

      within : (xs : List X) (i : ℕ) → slice_get xs i ≡ Some row → i < length xs
      within [] i at = absurd (nothing i at)
        where
          nothing : (j : ℕ) → slice_get [] j ≡ Some row → ⊥
          nothing j at = cc
      within (y ∷ xs) zero at = omega arith
      within (y ∷ xs) (suc i) at = let b = within xs i at in omega (arith, b)

      positive : (n == 0) ≡ false → n - 1 < length rows → (1 ≤ n) × (n ≤ length rows)
      positive f b = (least n f, omega (arith, b))
        where
          least : (m : ℕ) → (m == 0) ≡ false → 1 ≤ m
          least m e = grind (arith, nat_tests)

  domain_within : (d : ℕ) (row : DomainRow) → entry h.domains d ≡ Some row → d ≤ domain_count h
  domain_within d row is = let a = (row_within h.domains d row is).1 in let b = tree.lawful.domains.rows in
      omega (arith, a, b)

  kept_domain : (number d : ℕ) → is_keeper h number d ≡ true → d ≤ domain_count h
  kept_domain number d is = by (entry h.domains d) refl is
    where
      by : (o : Option DomainRow) → entry h.domains d ≡ o
          → is_number (option_map (λ (row : DomainRow). row.station) o) number ≡ true → d ≤ domain_count h
      by None at i = absurd cc
      by (Some row) at i = domain_within d row at

  parent_within : (x d : ℕ) → parent_of h x ≡ Some d → d ≤ domain_count h
  parent_within x d is = by (entry h.domains x) refl is
    where
      by : (o : Option DomainRow) → entry h.domains x ≡ o
          → option_and_then (λ (row : DomainRow). row.parent) o ≡ Some d → d ≤ domain_count h
      by None at i = absurd cc
      by (Some row) at i = let a = parents_are_lower h tree x d is in let b = domain_within x row at in
          omega (arith, a, b)

  device_domain : (n : ℕ) → option_map (λ (row : DeviceRow). row.domain) (entry h.devices n) ≡ None
      ⊎ ((d : ℕ) × (option_map (λ (row : DeviceRow). row.domain) (entry h.devices n) ≡ Some d) × (d ≤ domain_count h)
      × In n (devices_of h d))
  device_domain n = by (entry h.devices n) refl
    where
      by : (o : Option DeviceRow) → entry h.devices n ≡ o
          → option_map (λ (row : DeviceRow). row.domain) o ≡ None
          ⊎ ((d : ℕ) × (option_map (λ (row : DeviceRow). row.domain) o ≡ Some d) × (d ≤ domain_count h)
          × In n (devices_of h d))
      by None at = inl refl
      by (Some row) at =
          let within = row_within h.devices n row at in
          let on : (n == 0) ≡ false = positive n within.0 in
          let read : slice_get h.devices (n - 1) ≡ Some row = sym
          (ap (λ b. if b then None else slice_get h.devices (n - 1)) on) ∙ at in
          inr (
            row.domain,
            refl,
            (tree.lawful.devices.each n row at).domain.most,
            subst (λ z. In z (devices_of h row.domain)) (back n within.0)
                (in_numbers (is_device_of row.domain) h.devices 1 (n - 1) row read (self row.domain)),
          )
        where
          positive : (m : ℕ) → 1 ≤ m → (m == 0) ≡ false
          positive m l = grind (arith, nat_tests)

          back : (m : ℕ) → 1 ≤ m → m - 1 + 1 ≡ m
          back m l = omega (arith, l)

          self : (m : ℕ) → (m == m) ≡ true
          self m = grind (arith, nat_tests)

  -- a device's number is above all domains'
  device_above : (d x : ℕ) → In x (device_objects h d) → domain_count h < x
  device_above d x a =
      let b = from_mapped (λ device. domain_count h + device) x (devices_of h d) a in
      let least = numbers_above (is_device_of d) h.devices 1 b.0 b.1 in
      let is = b.2 in
      omega (arith, least, is)

  pub objects_apart : (d : ℕ) → d ≤ domain_count h → Apart same (objects_of h d)
  objects_apart d within =
      apart_added d (device_objects h d) (λ y a is. let b = device_above d y a in omega (arith, b, within, is))
      (apart_moved (domain_count h) (devices_of h d) (apart_numbers (is_device_of d) h.devices 1))

  -- devices move, and then the unit follows
  both : (d : ℕ) (one other : List Member) (old middle : ℕ → Option Condition) → d ≤ domain_count h
      → MovesAmong (device_objects h d) old middle → MovesAmong (objects_of h d) old (followed h one other middle d)
  both d one other old middle within first x = elim (first x) [
    | inl same_ ↦ elim (follows h one other middle d x) [
      | inl rests ↦ inl (rests ∙ same_)
      | inr then_ ↦ inr (
        subst (λ z. Changed z (followed h one other middle d x)) same_ then_.0,
        subst (λ z. In z (objects_of h d)) (sym then_.1) (in_second d (device_objects h d) (d ∷ []) (inl refl)),
      )
    ]
    | inr moved_ ↦ elim (follows h one other middle d x) [
      | inl rests ↦ inr (
        subst (Changed (old x)) (sym rests) moved_.0,
        in_first x (device_objects h d) (d ∷ []) moved_.1,
      )
      | inr then_ ↦ let a = device_above d x moved_.1 in let b = then_.1 in absurd (omega (arith, a, b, within))
    ]
  ]

  -- Anything that reaches a station.

  -- the objects that may change
  abbrev pub may_change : Option ℕ → List ℕ
  may_change None = []
  may_change (Some d) = objects_of h d

  pub record Follows (old new : ℕ → Option Condition) (domain : Option ℕ) : Type 0 where
    pub moves : MovesAmong (may_change domain) old new
    pub apart : Apart same (may_change domain)

  module _ (s : Station) (g : Grants) (display : Display) where
    abbrev old : ℕ → Option Condition
    old = s.display.conditions

    follow : (d : ℕ) (middle : ℕ → Option Condition) → d ≤ domain_count h
        → MovesAmong (device_objects h d) old middle
        → Follows old (conditions_by h s g display middle (Some d)) (Some d)
    follow d middle within first = record {
      moves = both d (members_of h s.grants s.display.conditions s.display.shown d)
          (members_of h g middle display.shown d) old middle within first;
      apart = objects_apart d within;
    }

    follow_maybe : (o : Option ℕ) → ((d : ℕ) → o ≡ Some d → d ≤ domain_count h)
        → Follows old (conditions_by h s g display old o) o
    follow_maybe None within = record { moves = stays [] old; apart = tt }
    follow_maybe (Some d) within = follow d old (within d refl) (stays (device_objects h d) old)

    body_follows : (number from : ℕ) (b : Body) → is_body_of h from number b ≡ true
        → Follows old (conditions_by h s g display (moved_by_body h s.grants old b) (domain_of_body h b))
        (domain_of_body h b)
    body_follows number from (body.Ask d) ok = follow_maybe None (λ d' i. absurd cc)
    body_follows number from (body.Take d who seen) ok = follow_maybe None (λ d' i. absurd cc)
    body_follows number from (body.Drop d who e) ok = follow_maybe None (λ d' i. absurd cc)
    body_follows number from (body.Run d who e n c) ok =
        follow d (moved_by_body h s.grants old (body.Run d who e n c))
        (kept_domain number d (and_parts (is_keeper h number d) _ ok).0)
        (λ x. elim (either (admits (s.grants.records d) who e n))
        [ inl t ↦ rw t (commands h old d c x) | inr f ↦ rw f (inl refl) ])
    body_follows number from (body.Tell d r) ok = follow_maybe (parent_of h d) (λ p is. parent_within d p is)
    body_follows number from (body.Watch x echo) ok = follow_maybe None (λ d' i. absurd cc)
    body_follows number from (body.State x echo v state) ok =
        follow_maybe (parent_of h x) (λ p is. parent_within x p is)
    body_follows number from (body.Unwatch x echo) ok = follow_maybe None (λ d' i. absurd cc)

    report_follows : (number device state : ℕ) → is_report_here h number device state ≡ true
        → Follows old (conditions_by h s g display (reported old (domain_count h + device) state)
        (domain_of h (domain_count h + device))) (domain_of h (domain_count h + device))
    report_follows number device state ok =
        let parts = and_parts (nat_le 1 device) _ ok in
        let positive = leb-true 1 device parts.0 in
        let kept = (and_parts (is_kept_by h number (domain_count h + device)) _ parts.1).0 in
        let at : domain_of h (domain_count h + device)
        ≡ option_map (λ (row : DeviceRow). row.domain) (entry h.devices device)
        = ap (λ b. if b then Some (domain_count h + device)
        else option_map (λ (row : DeviceRow). row.domain)
        (entry h.devices (domain_count h + device - domain_count h))) (beyond (domain_count h) device positive)
        ∙ ap (λ z. option_map (λ (row : DeviceRow). row.domain) (entry h.devices z)) (back (domain_count h) device) in
        elim (device_domain device) [
          | inl none ↦
              absurd (not_kept
              (ap (λ o. option_map_or (λ keeper. keeper == number) (option_and_then (station_of h) o) false)
              (sym (at ∙ none)) ∙ kept))
          | inr some ↦
              subst (λ o. Follows old (conditions_by h s g display (reported old (domain_count h + device) state) o) o)
              (sym (at ∙ some.1))
              (follow some.0 (reported old (domain_count h + device) state) some.2 (reports some.0 some.3))
        ]
      where
        beyond : (a b : ℕ) → 1 ≤ b → nat_le (a + b) a ≡ false
        beyond a b l = grind (arith, nat_tests)

        back : (a b : ℕ) → a + b - a ≡ b
        back a b = omega arith

        not_kept : false ≡ true → ⊥
        not_kept i = cc

        reports : (d : ℕ) → In device (devices_of h d)
            → MovesAmong (device_objects h d) old (reported old (domain_count h + device) state)
        reports d a x = elim (either (x == domain_count h + device)) [
          | inl t ↦ rw t (elim (comes (λ c. state) (old x)) [
            | inl same_ ↦ inl same_
            | inr c ↦ inr (
              c,
              subst (λ z. In z (device_objects h d)) (sym (eqb-true x (domain_count h + device) t))
                  (in_mapped (λ n. domain_count h + n) device (devices_of h d) a),
            )
          ])
          | inr f ↦ rw f (inl refl)
        ]

    pub all_follows : (number : ℕ) (what : Happening) → refusal_of h number s.grants what ≡ None
        → Follows old (conditions_after h s g display what) (domain_of_happening h what)
    all_follows number (Comes m) none = body_follows number m.from m.body (understood h number m none)
    all_follows number (Orders o what) none = follow_maybe None (λ d i. absurd cc)
    all_follows number (Reports device state) none =
        report_follows number device state (reported_here (is_report_here h number device state) none)
      where
        reported_here : (b : Bool) → or_refused b ≡ None → b ≡ true
        reported_here true i = refl
        reported_here false i = absurd cc
    all_follows number Ticks none = follow_maybe None (λ d i. absurd cc)
