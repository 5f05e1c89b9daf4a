-- What an action has done after the first devices of a domain.
use Rattle.std.proofs.Common.{◌≡◌, ℕ, ◌+◌, ◌<◌, ◌≤◌, Bool, true, false, List, [], ◌∷◌, ◌++◌, length, get_or, take}
use Rattle.std.proofs.Common.{Option, Some, None, refl, sym, ap, ◌∙◌, arith, length-append}
use Rattle.std.specs.Prelude.{◌==◌, ◌||◌, if◌then◌else◌, option_map, IsTrue}
use Rattle.std.specs.List.{cons_option}
use Rattle.std.specs.Option.{option_to_list}
use Rattle.std.proofs.lemmas.Bool.Decides.{nat_tests}
use Rattle.std.proofs.lemmas.Bool.{eqb-true, eq-eqb}
use Rattle.std.proofs.lemmas.List.{take_more, take_all, get_or-map}
use Rattle.std.proofs.Math.ListN.{length-map}
use Rattle.std.proofs.lemmas.List.Folds.{list_any_more, list_any-from_Any}
use Rattle.std.proofs.lemmas.List.Elements.{filter_map-append}
use mathlib.Core.Path.{fun_ext}
use Rattle.smi_grant.specs.declared.state.Shown.{Shown}
use Rattle.smi_tree.specs.Hierarchy.{Hierarchy, is_device_of}
use Rattle.smi_tree.specs.Lookups.{domain_count, devices_of}
use Rattle.smi_publish.proofs.DeviceNumbers.{numbers_from-Rises, not_before}
use Rattle.smi_publish.specs.declared.condition.Condition.{Condition}
use Rattle.smi_publish.specs.Published.{Published, conditions_of, change_at, changes_at, HasRoom}
use Rattle.smi_publish.specs.Publishing.{device_objects, is_among, moved_at, moved_by, acted}

-- the devices among these objects have moved
abbrev pub moved_among : Hierarchy → (ℕ → Option Condition) → ℕ → List ℕ → ℕ → Option Condition
moved_among h conditions action objects object =
    if is_among objects object then option_map (moved_by h action object) (conditions object) else conditions object

pub record SoFar (h : Hierarchy) (old new : Published) (domain action i : ℕ) (anew : List Shown) : Type 0 where
  pub boot : new.boot ≡ old.boot
  pub conditions : conditions_of new ≡ moved_among h (conditions_of old) action (take i (device_objects h domain))
  pub changes : anew ≡ changes_at old.boot (conditions_of old) (acted h (conditions_of old) domain action)
      (take i (device_objects h domain))
  pub few : length anew ≤ i

or_false : (b : Bool) → (b || false) ≡ b
or_false true = refl
or_false false = refl

-- one more device moves
pub moved_one_more : (h : Hierarchy) (conditions : ℕ → Option Condition) (action i d : ℕ) (objects : List ℕ)
    → i < length objects
    → is_among (take i objects) (get_or objects i d) ≡ false
    → moved_at h (moved_among h conditions action (take i objects)) action (get_or objects i d)
    ≡ moved_among h conditions action (take (i + 1) objects)
moved_one_more h conditions action i d objects within new = fun_ext (λ x. either x (x == get_or objects i d) refl)
  where
    either : (x : ℕ) → (b : Bool) → (x == get_or objects i d) ≡ b
        → (if b then option_map (moved_by h action x) (moved_among h conditions action (take i objects) x)
        else moved_among h conditions action (take i objects) x)
        ≡ moved_among h conditions action (take (i + 1) objects) x
    either x true is =
        let same : x ≡ get_or objects i d = eqb-true x (get_or objects i d) is in
        let none : is_among (take i objects) x ≡ false = rw same new in
        let one : (get_or objects i d == x) ≡ true = eq-eqb (get_or objects i d) x (sym same) in
        let more : is_among (take (i + 1) objects) x
        ≡ (is_among (take i objects) x || (get_or objects i d == x)) =
        list_any_more (λ y. y == x) objects i d within in
        let there : is_among (take (i + 1) objects) x ≡ true = more ∙ rw (none, one) refl in
        rw (there, none) refl
    either x false is =
        let one : (get_or objects i d == x) ≡ false = grind (arith, nat_tests) in
        let more : is_among (take (i + 1) objects) x
        ≡ (is_among (take i objects) x || (get_or objects i d == x)) =
        list_any_more (λ y. y == x) objects i d within in
        let same : is_among (take (i + 1) objects) x ≡ is_among (take i objects) x = more
        ∙ rw one (or_false (is_among (take i objects) x)) in
        rw same refl

-- a change is read off the conditions of its object alone
change_same : (boot boot' : ℕ) (old old' new new' : ℕ → Option Condition) (o : ℕ) → boot ≡ boot' → old o ≡ old' o
    → new o ≡ new' o
    → change_at boot old new o ≡ change_at boot' old' new' o
change_same boot boot' old old' new new' o b p q = rw (b, p, q) refl

one_change : (r : Option Shown) → cons_option r [] ≡ option_to_list r
one_change None = refl
one_change (Some s) = refl

length-option_to_list : (r : Option Shown) → length (option_to_list r) ≤ 1
length-option_to_list None = omega arith
length-option_to_list (Some s) = omega arith

-- the device at a place has not moved yet
pub not_moved : (h : Hierarchy) (old new : Published) (domain action i d o : ℕ) (anew : List Shown)
    → i < length (devices_of h domain) → SoFar h old new domain action i anew
    → o ≡ domain_count h + get_or (devices_of h domain) i d
    → conditions_of new o ≡ conditions_of old o
not_moved h old new domain action i d o anew within so is =
    let fresh : is_among (take i (device_objects h domain)) o ≡ false =
    rw is (not_before (domain_count h) (devices_of h domain) i d
    (numbers_from-Rises (is_device_of domain) 1 h.devices) within) in
    ap (λ f. f o) so.conditions ∙ rw fresh refl

pub is_device : (h : Hierarchy) (domain i d o : ℕ) → i < length (devices_of h domain)
    → o ≡ domain_count h + get_or (devices_of h domain) i d
    → is_among (device_objects h domain) o ≡ true
is_device h domain i d o within is =
    let inside : i < length (device_objects h domain) = rw length-map within in
    list_any-from_Any (λ y. y == o) (device_objects h domain)
    (i, o, inside, get_or-map (λ n. domain_count h + n) (devices_of h domain) i d o within ∙ sym is, eq-eqb o o refl)

pub room_now : (h : Hierarchy) (old new : Published) (domain action i d o : ℕ) (anew : List Shown)
    → i < length (devices_of h domain) → SoFar h old new domain action i anew
    → o ≡ domain_count h + get_or (devices_of h domain) i d
    → ((x : ℕ) → IsTrue (is_among (device_objects h domain) x) → HasRoom (conditions_of old) x)
    → HasRoom (conditions_of new) o
room_now h old new domain action i d o anew within so is room =
    rw (not_moved h old new domain action i d o anew within so is) (room o (is_device h domain i d o within is))

pub SoFar-more : (h : Hierarchy) (old new next : Published) (domain action i d o : ℕ) (anew : List Shown)
    (change : Option Shown)
    → i < length (devices_of h domain) → SoFar h old new domain action i anew
    → o ≡ domain_count h + get_or (devices_of h domain) i d
    → next.boot ≡ new.boot → conditions_of next ≡ moved_at h (conditions_of new) action o
    → change ≡ change_at new.boot (conditions_of new) (conditions_of next) o
    → SoFar h old next domain action (i + 1) (anew ++ option_to_list change)
SoFar-more h old new next domain action i d o anew change within so is boot moved changed =
    let objects : List ℕ = device_objects h domain in
    let inside : i < length objects = rw length-map within in
    let here : get_or objects i 0 ≡ o = get_or-map (λ n. domain_count h + n) (devices_of h domain) i d 0 within
    ∙ sym is in
    let fresh : is_among (take i objects) o ≡ false = rw is
    (not_before (domain_count h) (devices_of h domain) i d (numbers_from-Rises (is_device_of domain) 1 h.devices)
    within) in
    let among : is_among objects o ≡ true = is_device h domain i d o within is in
    let before : conditions_of new o ≡ conditions_of old o = not_moved h old new domain action i d o anew within so
    is in
    let after : conditions_of next o ≡ acted h (conditions_of old) domain action o =
    ap (λ f. f o) moved ∙ rw (eq-eqb o o refl, before, among) refl in
    let one : change ≡ change_at old.boot (conditions_of old) (acted h (conditions_of old) domain action) o =
    changed ∙ change_same new.boot old.boot (conditions_of new) (conditions_of old) (conditions_of next)
    (acted h (conditions_of old) domain action) o so.boot before after in
    let last : option_to_list change ≡ changes_at old.boot (conditions_of old)
    (acted h (conditions_of old) domain action) (get_or objects i 0 ∷ []) =
    rw here (sym (one_change change) ∙ ap (λ r. cons_option r []) one) in
    record {
      boot = boot ∙ so.boot;
      conditions = moved ∙ rw (so.conditions, ← here)
          (moved_one_more h (conditions_of old) action i 0 objects inside (rw here fresh));
      changes =
          rw (
            take_more objects i 0 inside,
            filter_map-append (change_at old.boot (conditions_of old) (acted h (conditions_of old) domain action))
                (take i objects) (get_or objects i 0 ∷ []),
            so.changes,
            last,
          ) refl;
      few = omega (arith, so.few, length-append anew (option_to_list change), length-option_to_list change);
    }

-- all have moved
all_objects : (h : Hierarchy) (domain i : ℕ) → length (devices_of h domain) ≤ i
    → take i (device_objects h domain) ≡ device_objects h domain
all_objects h domain i all = take_all i (device_objects h domain) (rw length-map all)

pub all_moved : (h : Hierarchy) (old new : Published) (domain action i : ℕ) (anew : List Shown)
    → length (devices_of h domain) ≤ i → SoFar h old new domain action i anew
    → conditions_of new ≡ acted h (conditions_of old) domain action
all_moved h old new domain action i anew all so =
    so.conditions ∙ ap (moved_among h (conditions_of old) action) (all_objects h domain i all)

pub all_shown : (h : Hierarchy) (old new : Published) (domain action i : ℕ) (anew : List Shown)
    → length (devices_of h domain) ≤ i → SoFar h old new domain action i anew
    → anew ≡ changes_at old.boot (conditions_of old) (conditions_of new) (device_objects h domain)
all_shown h old new domain action i anew all so =
    so.changes
    ∙ ap (changes_at old.boot (conditions_of old) (acted h (conditions_of old) domain action))
    (all_objects h domain i all)
    ∙ ap (λ f. changes_at old.boot (conditions_of old) f (device_objects h domain))
    (sym (all_moved h old new domain action i anew all so))
