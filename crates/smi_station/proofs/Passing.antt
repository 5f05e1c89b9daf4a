-- What a domain's objects newly show, in two steps: its devices move, and then its unit.
use Rattle.std.proofs.Common.{ℕ, ◌≡◌, ◌≤◌, ◌<◌, ◌+◌, Bool, true, false, List, [], ◌∷◌, ◌++◌, ◌⊎◌, inl, inr}
use Rattle.std.proofs.Common.{Option, Some, None, refl, sym, ap, ◌∙◌, subst, arith}
use Rattle.std.specs.Prelude.{◌==◌, ◌||◌, not, IfSome, option_map, if◌then◌else◌}
use Rattle.std.specs.List.{cons_option, filter_map, list_any}
use Rattle.std.proofs.lemmas.Bool.{eqb-true}
use Rattle.smi_grant.proofs.Holders.{either}
use Rattle.smi_protocol.proofs.Tables.{number_self}
use Rattle.std.proofs.lemmas.Bool.Decides.{nat_tests}
use Rattle.smi_grant.specs.declared.Shown.{Shown}
use Rattle.smi_tree.specs.Hierarchy.{Hierarchy}
use Rattle.smi_tree.specs.Lookups.{domain_count, devices_of}
use Rattle.smi_publish.specs.declared.condition.Condition.{Condition}
use Rattle.smi_publish.specs.Published.{HasRoom, change_at, changes_at, condition, differs, last_sequence, shown}
use Rattle.smi_publish.specs.Published.{shown_at}
use Rattle.smi_publish.specs.Publishing.{come_to, device_objects, evaluated, is_among, moved_by, reported}
use Rattle.smi_publish.specs.Publishing.{unit_moved}
use Rattle.smi_protocol.specs.Messages.{if_any}
use Rattle.smi_protocol.specs.Showing.{is_spent}
use Rattle.smi_protocol.specs.SoundDisplay.{IsCondition}
use Rattle.smi_protocol.proofs.Lists.{Apart, In, from_mapped, in_any, in_chosen, in_first, in_second, numbers_above}
use Rattle.smi_protocol.proofs.Lists.{same}
use Rattle.smi_station_display.specs.Members.{Listed, are_same, followed_by}
use Rattle.smi_station.specs.Stirring.{acted_by}

-- Lists.

-- what is chosen from one list and then another
pub chosen_both : {X Y : Type 0} (f : X → Option Y) (xs ys : List X)
    → filter_map f (xs ++ ys) ≡ filter_map f xs ++ filter_map f ys
chosen_both f [] ys = refl
chosen_both {Y = Y} f (x ∷ xs) ys = by (f x) (chosen_both f xs ys)
  where
    by : (o : Option Y) → filter_map f (xs ++ ys) ≡ filter_map f xs ++ filter_map f ys
        → cons_option o (filter_map f (xs ++ ys)) ≡ cons_option o (filter_map f xs) ++ filter_map f ys
    by None rest = rest
    by (Some y) rest = ap (λ (zs : List Y). y ∷ zs) rest

pub chosen_same : {X Y : Type 0} (f g : X → Option Y) (xs : List X) → ((x : X) → In x xs → f x ≡ g x)
    → filter_map f xs ≡ filter_map g xs
chosen_same f g [] each = refl
chosen_same {Y = Y} f g (x ∷ xs) each = ap (λ (o : Option Y). cons_option o (filter_map f xs)) (each x (inl refl))
    ∙ ap (cons_option (g x)) (chosen_same f g xs (λ y a. each y (inr a)))

one_chosen : {Y : Type 0} (o : Option Y) → cons_option o [] ≡ if_any o
one_chosen None = refl
one_chosen (Some y) = refl

-- where one alone may be chosen, it is
pub chosen_one : {Y : Type 0} (f : ℕ → Option Y) (x : ℕ) (xs : List ℕ) → Apart same xs → In x xs
    → ((y : ℕ) → (y == x) ≡ false → f y ≡ None) → filter_map f xs ≡ if_any (f x)
chosen_one f x [] apart there none = absurd there
chosen_one {Y = Y} f x (y ∷ ys) apart (inl is) none =
    subst (λ z. cons_option (f z) (filter_map f ys) ≡ if_any (f x)) is
    (ap (cons_option (f x)) (nothing ys (λ z a. none z (other z (λ same. apart.0 z a (same ∙ is)))))
    ∙ one_chosen (f x))
  where
    other : (z : ℕ) → (z ≡ x → ⊥) → (z == x) ≡ false
    other z differ = elim (either (z == x)) [ inl t ↦ absurd (differ (eqb-true z x t)) | inr f ↦ f ]

    nothing : (zs : List ℕ) → ((z : ℕ) → In z zs → f z ≡ None) → filter_map f zs ≡ []
    nothing [] each = refl
    nothing (z ∷ zs) each = ap (λ (o : Option Y). cons_option o (filter_map f zs)) (each z (inl refl))
        ∙ nothing zs (λ w a. each w (inr a))
chosen_one {Y = Y} f x (y ∷ ys) apart (inr a) none =
    ap (λ (o : Option Y). cons_option o (filter_map f ys))
    (none y (elim (either (y == x)) [ inl t ↦ absurd (apart.0 x a (sym (eqb-true y x t))) | inr f ↦ f ]))
    ∙ chosen_one f x ys apart.1 a none

any_not : {X : Type 0} (test : X → Bool) (x : X) (xs : List X) → list_any test xs ≡ false → In x xs → test x ≡ false
any_not test x [] f a = absurd a
any_not {X = X} test x (y ∷ ys) f a = by (test y) refl f (λ g there. any_not test x ys g there)
  where
    by : (b : Bool) → test y ≡ b → (b || list_any test ys) ≡ false
        → (list_any test ys ≡ false → In x ys → test x ≡ false) → test x ≡ false
    by true is f rest = absurd cc
    by false is f rest = elim a [ inl same ↦ ap test same ∙ is | inr there ↦ rest f there ]

-- Objects that enter a state.

-- the object's state is another one, or nothing has changed
abbrev pub Comes_to : Option Condition → Option Condition → Type 0
Comes_to old new = (new ≡ old) ⊎ (differs old new ≡ true)

pub comes : (f : Condition → ℕ) (o : Option Condition) → Comes_to o (option_map (λ c. come_to (f c) c) o)
comes f None = inl refl
comes f (Some c) = by (c.state == f c) refl
  where
    by : (b : Bool) → (c.state == f c) ≡ b → Comes_to (Some c)
        (Some (if b then c else condition (f c) (c.sequence + 1)))
    by true is = inl refl
    by false is = inr (ap not is)

pub differs_not : (o : Option Condition) → differs o o ≡ false
differs_not None = refl
differs_not (Some c) = ap not (number_self c.state)

-- The devices of a domain are no units.

pub no_device : (h : Hierarchy) (d : ℕ) → d ≤ domain_count h → In d (device_objects h d) → ⊥
no_device h d within a =
    let m = from_mapped (λ device. domain_count h + device) d (devices_of h d) a in
    let above = numbers_above _ h.devices 1 m.0 m.1 in
    let is : d ≡ domain_count h + m.0 = m.2 in
    omega (arith, within, above, is)

-- First the devices change, if they do, and then the unit.
pub record Stirs (old mid new : ℕ → Option Condition) (devices : List ℕ) (d : ℕ) : Type 0 where
  pub first : (x : ℕ) → (mid x ≡ old x) ⊎ ((differs (old x) (mid x) ≡ true) × In x devices)
  pub last : (x : ℕ) → (new x ≡ mid x) ⊎ ((differs (mid x) (new x) ≡ true) × (x ≡ d))
  pub apart : In d devices → ⊥

module _ (boot : ℕ) (old mid new : ℕ → Option Condition) (devices : List ℕ) (d : ℕ)
    (stirs : Stirs old mid new devices d) where
  unit_stays : mid d ≡ old d
  unit_stays = elim (stirs.first d) [ inl is ↦ is | inr a ↦ absurd (stirs.apart a.1) ]

  device_stays : (x : ℕ) → In x devices → new x ≡ mid x
  device_stays x a =
      elim (stirs.last x) [ inl is ↦ is | inr b ↦ absurd (stirs.apart (subst (λ y. In y devices) b.1 a)) ]

  -- what is newly shown in the two steps is what is newly shown in one
  pub stirs_shown : changes_at boot old mid devices ++ if_any (change_at boot mid new d)
      ≡ changes_at boot old new (devices ++ d ∷ [])
  stirs_shown =
      ap (λ (xs : List Shown). xs ++ if_any (change_at boot mid new d))
      (chosen_same (change_at boot old mid) (change_at boot old new) devices device)
      ∙ ap (λ (xs : List Shown). changes_at boot old new devices ++ xs)
      (ap (λ (o : Option Shown). if_any o) unit ∙ sym (one_chosen (change_at boot old new d)))
      ∙ sym (chosen_both (change_at boot old new) devices (d ∷ []))
    where
      device : (x : ℕ) → In x devices → change_at boot old mid x ≡ change_at boot old new x
      device x a = ap (λ (c : Option Condition). if differs (old x) c then option_map (shown boot x) c else None)
          (sym (device_stays x a))

      unit : change_at boot mid new d ≡ change_at boot old new d
      unit = ap (λ (c : Option Condition). if differs c (new d) then shown_at boot new d else None) unit_stays

  changed : (x : ℕ) → (new x ≡ old x) ⊎ ((differs (old x) (new x) ≡ true) × In x (devices ++ d ∷ []))
  changed x = elim (stirs.last x) [
    | inl is ↦ elim (stirs.first x) [
      | inl was ↦ inl (is ∙ was)
      | inr a ↦ inr (
        subst (λ (c : Option Condition). differs (old x) c ≡ true) (sym is) a.0,
        in_first x devices (d ∷ []) a.1,
      )
    ]
    | inr a ↦ inr (
      subst (λ (c : Option Condition). differs c (new x) ≡ true) (subst (λ y. mid y ≡ old y) (sym a.1) unit_stays) a.0,
      in_second x devices (d ∷ []) (inl a.1),
    )
  ]

  -- if none has reached the last sequence, each may change once more
  pub stirs_room : (h : Hierarchy) → ((x : ℕ) → HasRoom old x) → ((x : ℕ) → IfSome (new x) (IsCondition h))
      → is_spent (changes_at boot old new (devices ++ d ∷ [])) ≡ false → (x : ℕ) → HasRoom new x
  stirs_room h room sound unspent x = elim (changed x) [
    | inl is ↦ subst (λ (c : Option Condition). IfSome c (λ c. c.sequence < last_sequence)) (sym is) (room x)
    | inr a ↦ by (new x) refl a.0 (sound x) a.1
  ]
    where
      below : (n : ℕ) → n ≤ last_sequence → (n == last_sequence) ≡ false → n < last_sequence
      below n most other = grind (arith, nat_tests)

      there : (c : Condition) → new x ≡ Some c → differs (old x) (new x) ≡ true
          → change_at boot old new x ≡ Some (shown boot x c)
      there c is differ = ap (λ b. if b then shown_at boot new x else None) differ ∙ ap (option_map (shown boot x)) is

      by : (o : Option Condition) → new x ≡ o → differs (old x) (new x) ≡ true → IfSome o (IsCondition h)
          → In x (devices ++ d ∷ []) → IfSome o (λ c. c.sequence < last_sequence)
      by None is differ sound a = tt
      by (Some c) is differ sound a =
          below c.sequence sound.sequence
          (any_not (λ (s : Shown). s.version.sequence == last_sequence) (shown boot x c)
          (changes_at boot old new (devices ++ d ∷ [])) unspent
          (in_chosen (change_at boot old new) x (shown boot x c) (devices ++ d ∷ []) a (there c is differ)))

-- The steps that a station takes.

pub none_moves : (old : ℕ → Option Condition) (devices : List ℕ) (x : ℕ)
    → (old x ≡ old x) ⊎ ((differs (old x) (old x) ≡ true) × In x devices)
none_moves old devices x = inl refl

pub acted_first : (h : Hierarchy) (old : ℕ → Option Condition) (d : ℕ) (action : Option ℕ) (x : ℕ)
    → (acted_by h old d action x ≡ old x) ⊎ ((differs (old x) (acted_by h old d action x) ≡ true)
    × In x (device_objects h d))
acted_first h old d None x = inl refl
acted_first h old d (Some a) x = by (is_among (device_objects h d) x) refl
  where
    by : (b : Bool) → is_among (device_objects h d) x ≡ b
        → ((if b then option_map (moved_by h a x) (old x) else old x) ≡ old x)
        ⊎ ((differs (old x) (if b then option_map (moved_by h a x) (old x) else old x) ≡ true)
        × In x (device_objects h d))
    by true is = elim (comes (λ c. _) (old x))
        [ inl same ↦ inl same | inr other ↦ inr (other, in_any x (device_objects h d) is) ]
    by false is = inl refl

pub reported_first : (old : ℕ → Option Condition) (devices : List ℕ) (object state : ℕ) → In object devices → (x : ℕ)
    → (reported old object state x ≡ old x) ⊎ ((differs (old x) (reported old object state x) ≡ true) × In x devices)
reported_first old devices object state there x = by (x == object) refl
  where
    by : (b : Bool) → (x == object) ≡ b
        → ((if b then option_map (come_to state) (old x) else old x) ≡ old x)
        ⊎ ((differs (old x) (if b then option_map (come_to state) (old x) else old x) ≡ true) × In x devices)
    by true is = elim (comes (λ c. state) (old x))
        [ inl same ↦ inl same | inr other ↦ inr (other, subst (λ y. In y devices) (sym (eqb-true x object is)) there) ]
    by false is = inl refl

pub followed_then : (h : Hierarchy) (before after : Listed) (mid : ℕ → Option Condition) (d x : ℕ)
    → (followed_by h before after mid d x ≡ mid x)
    ⊎ ((differs (mid x) (followed_by h before after mid d x) ≡ true) × (x ≡ d))
followed_then h before after mid d x = by (are_same before after)
  where
    here : (b : Bool) → (x == d) ≡ b
        → ((if b then option_map (unit_moved h d after.states) (mid x) else mid x) ≡ mid x)
        ⊎ ((differs (mid x) (if b then option_map (unit_moved h d after.states) (mid x) else mid x) ≡ true) × (x ≡ d))
    here true is = elim (comes (λ c. _) (mid x)) [ inl same ↦ inl same | inr other ↦ inr (other, eqb-true x d is) ]
    here false is = inl refl

    by : (b : Bool) → ((if b then mid else evaluated h mid d after.states) x ≡ mid x)
        ⊎ ((differs (mid x) ((if b then mid else evaluated h mid d after.states) x) ≡ true) × (x ≡ d))
    by true = inl refl
    by false = here (x == d) refl

-- one device alone may change
pub reported_shown : (h : Hierarchy) (boot : ℕ) (old : ℕ → Option Condition) (d object state : ℕ)
    → Apart same (device_objects h d) → In object (device_objects h d)
    → if_any (change_at boot old (reported old object state) object)
    ≡ changes_at boot old (reported old object state) (device_objects h d)
reported_shown h boot old d object state apart there =
    sym (chosen_one (change_at boot old (reported old object state)) object (device_objects h d) apart there none)
  where
    none : (y : ℕ) → (y == object) ≡ false → change_at boot old (reported old object state) y ≡ None
    none y other =
        ap (λ (c : Option Condition). if differs (old y) c then option_map (shown boot y) c else None)
        (ap (λ b. if b then option_map (come_to state) (old y) else old y) other)
        ∙ ap (λ b. if b then option_map (shown boot y) (old y) else None) (differs_not (old y))

-- what does not change shows nothing new
pub unchanged_shown : (boot : ℕ) (old : ℕ → Option Condition) (objects : List ℕ) → changes_at boot old old objects ≡ []
unchanged_shown boot old [] = refl
unchanged_shown boot old (x ∷ xs) = ap (λ (o : Option Shown). cons_option o (changes_at boot old old xs))
    (ap (λ b. if b then shown_at boot old x else None) (differs_not (old x))) ∙ unchanged_shown boot old xs
