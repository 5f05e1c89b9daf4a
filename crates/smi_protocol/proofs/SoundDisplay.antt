-- What a station keeps of states and of watching stays sound.
use Rattle.std.proofs.Common.{ℕ, zero, suc, ◌≡◌, ◌≤◌, ◌<◌, ◌+◌, ◌-◌, Bool, true, false, List, [], ◌∷◌, ◌⊎◌, inl, inr}
use Rattle.std.proofs.Common.{length, Option, Some, None, refl, sym, ap, ◌∙◌, subst, max, arith}
use Rattle.std.specs.Prelude.{◌==◌, nat_le, nat_lt, not, IfSome, filter, replicate, slice_get, slice_set, unwrap_or}
use Rattle.std.specs.Prelude.{option_and_then, option_map, if◌then◌else◌}
use Rattle.std.specs.Option.{option_map_or}
use Rattle.std.specs.List.{AllByRecursion, cons_option}
use Rattle.std.proofs.lemmas.Bool.{and_from, eqb-true, false≢true}
use Rattle.std.proofs.lemmas.Bool.Decides.{nat_tests}
use Rattle.std.proofs.lemmas.List.{length-set, length-map, length-replicate}
use Rattle.std.proofs.lemmas.Option.{slice_get-map}
use Rattle.smi_grant.specs.declared.Shown.{Shown}
use Rattle.smi_message.specs.Message.{is_boot}
use Rattle.smi_tree.specs.declared.row.Device.{Device}
use Rattle.smi_tree.specs.declared.row.Domain.{Domain}
use Rattle.smi_tree.specs.declared.row.Move.{Move}
use Rattle.smi_tree.specs.declared.row.Rule.{Rule}
use Rattle.smi_tree.specs.ClassTable.{ClassTable}
use Rattle.smi_tree.specs.Hierarchy.{Hierarchy, entry, is_move_at, move_in}
use Rattle.smi_tree.specs.Lawful.{IsBetween, IsClass, IsRule, IsTree}
use Rattle.smi_tree.specs.Lookups.{class_of_device, class_of_domain, domain_count, first_state, moved, moved_by}
use Rattle.smi_tree.specs.Lookups.{state_count, unit_state}
use Rattle.smi_tree.specs.Rules.{holds, state_by}
use Rattle.smi_command.proofs.Heard.{choose}
use Rattle.smi_publish.specs.declared.condition.Condition.{Condition}
use Rattle.smi_publish.specs.Published.{HasRoom, changes_at, condition, differs, last_sequence, shown, shown_at}
use Rattle.smi_publish.specs.Publishing.{acted, come_to, device_objects, evaluated, first_condition, is_among}
use Rattle.smi_tree.specs.Roles.{is_kept_by}
use Rattle.smi_publish.specs.Publishing.{reported, unit_moved}
use Rattle.smi_publish.specs.Publishing as publishing
use Rattle.smi_watchers.specs.declared.Watcher.{Watcher}
use Rattle.smi_watchers.specs.Watching.{is_ended_by, is_of, left_by, listed, others_of, renewed_by, unwatch_in}
use Rattle.smi_watchers.specs.Watching.{unwatched, watch_in, watched, watcher, with_list}
use Rattle.smi_protocol.specs.Display.{Display}
use Rattle.smi_protocol.specs.Grants.{put}
use Rattle.smi_protocol.specs.Opening.{first_display, object_count}
use Rattle.smi_protocol.specs.SoundDisplay.{IsCondition, IsDisplay, IsShown, IsWatcher}
use Rattle.smi_protocol.specs.Watching.{has_asked, is_full, lists_after, lists_before}
use Rattle.smi_protocol.proofs.KeptObjects.{kept_within}
use Rattle.smi_protocol.proofs.Lists.{In}
use Rattle.smi_protocol.proofs.SoundSteps.{found}
use Rattle.smi_protocol.proofs.Tables.{at_put, entry_of}

-- Lists.

filter_all : {X : Type 0} (P : X → Type 0) (test : X → Bool) (xs : List X) → AllByRecursion P xs
    → AllByRecursion P (filter test xs)
filter_all P test [] all = tt
filter_all P test (x ∷ xs) all = choose (λ zs. AllByRecursion P zs) (test x) (x ∷ filter test xs) (filter test xs)
    (λ t. (all.0, filter_all P test xs all.1)) (λ f. filter_all P test xs all.1)

-- what is at a place after a write is what was written, or what was there
read_set : {X : Type 0} (xs : List X) (n m : ℕ) (v : X)
    → (slice_get (slice_set xs n v) m ≡ slice_get xs m) ⊎ (slice_get (slice_set xs n v) m ≡ Some v)
read_set [] n m v = inl refl
read_set (x ∷ xs) zero zero v = inr refl
read_set (x ∷ xs) zero (suc m) v = inl refl
read_set (x ∷ xs) (suc n) zero v = inl refl
read_set (x ∷ xs) (suc n) (suc m) v = read_set xs n m v

in_place : {X : Type 0} (x : X) (xs : List X) → In x xs → (i : ℕ) × (slice_get xs i ≡ Some x)
in_place x [] a = absurd a
in_place x (y ∷ xs) (inl is) = (0, ap Some (sym is))
in_place x (y ∷ xs) (inr a) = let r = in_place x xs a in (suc r.0, r.1)

read_none : {X : Type 0} (n m : ℕ) → unwrap_or (slice_get (replicate {A = List X} n []) m) [] ≡ []
read_none zero m = refl
read_none (suc n) zero = refl
read_none (suc n) (suc m) = read_none n m

-- Watchers.

greater_boot : (a b : ℕ) → is_boot a ≡ true → is_boot b ≡ true → is_boot (max a b) ≡ true
greater_boot a b x y =
    elim (either a b) [
      | inl is ↦ subst (λ z. is_boot z ≡ true) (sym is) x
      | inr is ↦
          subst (λ z. is_boot z ≡ true) (sym is) y
    ]
  where
    either : (a b : ℕ) → (max a b ≡ a) ⊎ (max a b ≡ b)
    either a b = grind arith

module _ (h : Hierarchy) where
  watch_all : (ws : List Watcher) (from echo : ℕ) → AllByRecursion (IsWatcher h) ws → IsWatcher h (watcher from echo)
      → AllByRecursion (IsWatcher h) (watch_in ws from echo)
  watch_all [] from echo all new = (new, tt)
  watch_all (w ∷ ws) from echo all new =
      choose (λ zs. AllByRecursion (IsWatcher h) zs) (is_of from w) (renewed_by echo w ∷ ws) (w ∷ watch_in ws from echo)
      (λ t. (record { station = all.0.station; echo = greater_boot w.echo echo all.0.echo new.echo }, all.1))
      (λ f. (all.0, watch_all ws from echo all.1 new))

  abbrev Listed : List (List Watcher) → Type 0
  Listed lists = (x : ℕ) → AllByRecursion (IsWatcher h) (listed lists x)

  with_list_all : (lists : List (List Watcher)) (x : ℕ) (ws : List Watcher) → Listed lists
      → AllByRecursion (IsWatcher h) ws → Listed (with_list lists x ws)
  with_list_all lists x ws all new y = elim (read_set lists (x - 1) (y - 1) ws) [
    | inl is ↦ subst (λ (o : Option (List Watcher)). AllByRecursion (IsWatcher h) (unwrap_or o [])) (sym is) (all y)
    | inr is ↦ subst (λ (o : Option (List Watcher)). AllByRecursion (IsWatcher h) (unwrap_or o [])) (sym is) new
  ]

  left_all : (from : ℕ) (lists : List (List Watcher)) → Listed lists → Listed (left_by from lists)
  left_all from lists all x = rw (slice_get-map (others_of from) lists (x - 1)) (by (slice_get lists (x - 1)) (all x))
    where
      by : (o : Option (List Watcher)) → AllByRecursion (IsWatcher h) (unwrap_or o [])
          → AllByRecursion (IsWatcher h) (unwrap_or (option_map (others_of from) o) [])
      by None a = tt
      by (Some ws) a = filter_all (IsWatcher h) (λ w. not (is_of from w)) ws a

  watched_all : (lists : List (List Watcher)) (x from echo : ℕ) → Listed lists → IsWatcher h (watcher from echo)
      → Listed (watched lists x from echo)
  watched_all lists x from echo all new = with_list_all lists x (watch_in (listed lists x) from echo) all
      (watch_all (listed lists x) from echo (all x) new)

  unwatched_all : (lists : List (List Watcher)) (x from echo : ℕ) → Listed lists → Listed (unwatched lists x from echo)
  unwatched_all lists x from echo all = with_list_all lists x (unwatch_in (listed lists x) from echo) all
      (filter_all (IsWatcher h) (λ w. not (is_ended_by from echo w)) (listed lists x) (all x))

-- States.

-- what a class makes of a member's state is a state of the tree
module _ (h : Hierarchy) (tree : IsTree h) where
  rules_in : (rules : List Rule) (old : ℕ) (members : List ℕ) → AllByRecursion (IsRule (state_count h)) rules
      → IsBetween 1 (state_count h) old → IsBetween 1 (state_count h) (state_by rules old members)
  rules_in [] old members all within = within
  rules_in (r ∷ rules) old members all within =
      choose (IsBetween 1 (state_count h)) (holds r members) r.target (state_by rules old members) (λ t. all.0.target)
      (λ f. rules_in rules old members all.1 within)

  class_there : (class : ℕ) (table : ClassTable) → entry h.classes class ≡ Some table
      → IsClass (state_count h) (length h.action_names) table
  class_there class table at = tree.lawful.classes.each class table at

  domain_class : (d : ℕ) (table : ClassTable) → class_of_domain h d ≡ Some table
      → IsClass (state_count h) (length h.action_names) table
  domain_class d table at = by (entry h.domains d) at
    where
      by : (o : Option Domain) → option_and_then (λ (row : Domain). entry h.classes row.class) o ≡ Some table
          → IsClass (state_count h) (length h.action_names) table
      by None is = absurd cc
      by (Some row) is = class_there row.class table is

  device_class : (d : ℕ) (table : ClassTable) → class_of_device h d ≡ Some table
      → IsClass (state_count h) (length h.action_names) table
  device_class d table at = by (entry h.devices d) at
    where
      by : (o : Option Device) → option_and_then (λ (row : Device). entry h.classes row.class) o ≡ Some table
          → IsClass (state_count h) (length h.action_names) table
      by None is = absurd cc
      by (Some row) is = class_there row.class table is

  unit_in : (d old : ℕ) (members : List ℕ) → IsBetween 1 (state_count h) old
      → IsBetween 1 (state_count h) (unit_state h d old members)
  unit_in d old members within = by (class_of_domain h d) refl
    where
      by : (o : Option ClassTable) → class_of_domain h d ≡ o
          → IsBetween 1 (state_count h) (option_map_or (λ (table : ClassTable). state_by table.rules old members) o old)
      by None is = within
      by (Some table) is = rules_in table.rules old members (domain_class d table is).rules within

  moved_in : (device old action : ℕ) → IsBetween 1 (state_count h) old
      → IsBetween 1 (state_count h) (moved h device old action)
  moved_in device old action within = by (entry h.devices device)
    where
      row_to : (class : ℕ) (o : Option Move) → move_in h.moves class old action ≡ o
          → IsBetween 1 (state_count h) (option_map_or (λ (row : Move). row.to) o old)
      row_to class None is = within
      row_to class (Some row) is =
          let f = found (is_move_at class old action) h.moves row is in
          let at = in_place row h.moves f.0 in
          (tree.lawful.moves (at.0 + 1) row (entry_of h.moves at.0 row at.1)).to

      by : (o : Option Device) → IsBetween 1 (state_count h)
          (option_map_or (λ (row : Device). moved_by h row.class old action) o old)
      by None = within
      by (Some row) = row_to row.class (move_in h.moves row.class old action) refl

  first_in : (x state : ℕ) → first_state h x ≡ Some state → IsBetween 1 (state_count h) state
  first_in x state is = by (nat_le x (domain_count h)) is
    where
      taken : (o : Option ClassTable) → ((table : ClassTable) → o ≡ Some table
          → IsClass (state_count h) (length h.action_names) table)
          → option_map (λ (table : ClassTable). table.first) o ≡ Some state → IsBetween 1 (state_count h) state
      taken None each at = absurd cc
      taken (Some table) each at = let same : table.first ≡ state = cc in
          subst (IsBetween 1 (state_count h)) same (each table refl).first

      by : (b : Bool) → option_map (λ (table : ClassTable). table.first)
          (if b then class_of_domain h x else class_of_device h (x - domain_count h)) ≡ Some state
          → IsBetween 1 (state_count h) state
      by true at = taken (class_of_domain h x) (λ table there. domain_class x table there) at
      by false at = taken (class_of_device h (x - domain_count h))
          (λ table there. device_class (x - domain_count h) table there) at

-- one more change
come_in : (h : Hierarchy) (c : Condition) (state : ℕ) → IsCondition h c → c.sequence < last_sequence
    → IsBetween 1 (state_count h) state → IsCondition h (come_to state c)
come_in h c state old room within = choose (IsCondition h) (c.state == state) c (condition state (c.sequence + 1))
    (λ t. old) (λ f. record { state = within; sequence = omega (arith, room) })

-- what each condition keeps, if it is changed by a test
each_changed : (P : Condition → Type 0) (b : Bool) (f : Condition → Condition) (o : Option Condition)
    → ((c : Condition) → o ≡ Some c → b ≡ true → P c → P (f c)) → IfSome o P
    → IfSome (if b then option_map f o else o) P
each_changed P true f None keeps old = tt
each_changed P true f (Some c) keeps old = keeps c refl refl old
each_changed P false f o keeps old = old

-- an object that has a condition may change once more
roomy : (o : Option Condition) (c : Condition) → o ≡ Some c → IfSome o (λ c. c.sequence < last_sequence)
    → c.sequence < last_sequence
roomy o c is room = subst (λ z. IfSome z (λ c. c.sequence < last_sequence)) is room

-- the conditions of a station's objects, and of no others
abbrev pub Conditions : Hierarchy → ℕ → (ℕ → Option Condition) → Type 0
Conditions h number cs = ((x : ℕ) → IfSome (cs x) (λ c. is_kept_by h number x ≡ true))
    × ((x : ℕ) → IfSome (cs x) (IsCondition h))

module _ (h : Hierarchy) (number : ℕ) (cs : ℕ → Option Condition) (old : Conditions h number cs) where
  pub reported_sound : (object state : ℕ) → HasRoom cs object → IsBetween 1 (state_count h) state
      → Conditions h number (reported cs object state)
  reported_sound object state room within = (
    λ x. each_changed (λ c. is_kept_by h number x ≡ true) (x == object) (come_to state) (cs x) (λ c is here k. k)
        (old.0 x),
    λ x. each_changed (IsCondition h) (x == object) (come_to state) (cs x)
        (λ c is here k. come_in h c state k (at x here c is) within) (old.1 x),
  )
    where
      at : (x : ℕ) → (x == object) ≡ true → (c : Condition) → cs x ≡ Some c → c.sequence < last_sequence
      at x here c is = roomy (cs x) c is (subst (HasRoom cs) (sym (eqb-true x object here)) room)

  pub acted_sound : (tree : IsTree h) (d action : ℕ)
      → ((x : ℕ) → is_among (device_objects h d) x ≡ true → HasRoom cs x) → Conditions h number (acted h cs d action)
  acted_sound tree d action room = (
    λ x. each_changed (λ c. is_kept_by h number x ≡ true) (is_among (device_objects h d) x)
        (publishing.moved_by h action x) (cs x) (λ c is here k. k) (old.0 x),
    λ x. each_changed (IsCondition h) (is_among (device_objects h d) x) (publishing.moved_by h action x) (cs x)
        (λ c is here k. come_in h c (moved h (x - domain_count h) c.state action) k (roomy (cs x) c is (room x here))
        (moved_in h tree (x - domain_count h) c.state action k.state)) (old.1 x),
  )

  pub evaluated_sound : (tree : IsTree h) (d : ℕ) (members : List ℕ) → HasRoom cs d
      → Conditions h number (evaluated h cs d members)
  evaluated_sound tree d members room = (
    λ x. each_changed (λ c. is_kept_by h number x ≡ true) (x == d) (unit_moved h d members) (cs x) (λ c is here k. k)
        (old.0 x),
    λ x. each_changed (IsCondition h) (x == d) (unit_moved h d members) (cs x)
        (λ c is here k. come_in h c (unit_state h d c.state members) k (at x here c is)
        (unit_in h tree d c.state members k.state)) (old.1 x),
  )
    where
      at : (x : ℕ) → (x == d) ≡ true → (c : Condition) → cs x ≡ Some c → c.sequence < last_sequence
      at x here c is = roomy (cs x) c is (subst (HasRoom cs) (sym (eqb-true x d here)) room)

-- What is shown.

-- a state of a sound display is one of its object's
shown_in : (h : Hierarchy) (tree : IsTree h) (number boot : ℕ) (cs : ℕ → Option Condition) → Conditions h number cs
    → is_boot boot ≡ true → (x : ℕ) → IfSome (shown_at boot cs x) (IsShown h)
shown_in h tree number boot cs sound begun x = by (cs x) (sound.0 x) (sound.1 x)
  where
    by : (o : Option Condition) → IfSome o (λ c. is_kept_by h number x ≡ true) → IfSome o (IsCondition h)
        → IfSome (option_map (shown boot x) o) (IsShown h)
    by None own c = tt
    by (Some c) own is =
        let within = kept_within h tree number x own in
        let least = within.0 in
        let most = within.1 in
        record {
          object = record { least = least; most = omega (arith, most) };
          version = and_from _ _ begun (sequence_in c.sequence is.sequence);
          state = is.state;
        }
      where
        sequence_in : (n : ℕ) → n ≤ last_sequence → nat_le n last_sequence ≡ true
        sequence_in n l = grind (arith, nat_tests)

pub display_shown : (h : Hierarchy) (tree : IsTree h) (number boot : ℕ) (s : Display) → IsDisplay h number s
    → is_boot boot ≡ true → (x : ℕ) → IfSome (shown_at boot s.conditions x) (IsShown h)
display_shown h tree number boot s sound begun x =
    shown_in h tree number boot s.conditions (sound.own, sound.conditions) begun x

-- so is each of what is newly shown
pub passed_all : (h : Hierarchy) (tree : IsTree h) (number boot : ℕ) (old cs : ℕ → Option Condition)
    → Conditions h number cs → is_boot boot ≡ true → (xs : List ℕ)
    → AllByRecursion (IsShown h) (changes_at boot old cs xs)
passed_all h tree number boot old cs sound begun [] = tt
passed_all h tree number boot old cs sound begun (x ∷ xs) =
    by (differs (old x) (cs x)) (passed_all h tree number boot old cs sound begun xs)
  where
    one : (o : Option Shown) → IfSome o (IsShown h) → AllByRecursion (IsShown h) (changes_at boot old cs xs)
        → AllByRecursion (IsShown h) (cons_option o (changes_at boot old cs xs))
    one None is all = all
    one (Some s) is all = (is, all)

    by : (b : Bool) → AllByRecursion (IsShown h) (changes_at boot old cs xs)
        → AllByRecursion (IsShown h) (cons_option (if b then shown_at boot cs x else None) (changes_at boot old cs xs))
    by true all = one (shown_at boot cs x) (shown_in h tree number boot cs sound begun x) all
    by false all = all

-- The display.

module _ (h : Hierarchy) (number : ℕ) (s : Display) (sound : IsDisplay h number s) where
  -- other states of its objects
  pub conditions_sound : (cs : ℕ → Option Condition) → Conditions h number cs
      → IsDisplay h number (record s { conditions = cs })
  conditions_sound cs each = record {
    own = each.0;
    conditions = each.1;
    lists = sound.lists;
    watchers = sound.watchers;
    named = sound.named;
    asks = sound.asks;
  }

  before_sound : (from echo : ℕ) → (length (lists_before s from echo) ≡ object_count h)
      × Listed h (lists_before s from echo)
  before_sound from echo = choose (λ lists. (length lists ≡ object_count h) × Listed h lists)
      (nat_lt (s.echoes from) echo) (left_by from s.watchers) s.watchers
      (λ t. (length-map s.watchers (others_of from) ∙ sound.lists, left_all h from s.watchers sound.watchers))
      (λ f. (sound.lists, sound.watchers))

  -- a watch
  pub watch_sound : (x from echo : ℕ) → IsWatcher h (watcher from echo)
      → IsDisplay h number
      (record s { echoes = put s.echoes from echo; watchers = lists_after (lists_before s from echo) x from echo })
  watch_sound x from echo new =
      let before = before_sound from echo in
      let after = choose (λ lists. (length lists ≡ object_count h) × Listed h lists)
      (is_full (lists_before s from echo) x from) (lists_before s from echo)
      (watched (lists_before s from echo) x from echo)
      (λ t. before)
      (λ f. (
        length-set (lists_before s from echo) (x - 1) (watch_in (listed (lists_before s from echo) x) from echo)
            ∙ before.0,
        watched_all h (lists_before s from echo) x from echo before.1 new,
      )) in
      record {
        own = sound.own;
        conditions = sound.conditions;
        lists = after.0;
        watchers = after.1;
        named = sound.named;
        asks = sound.asks;
      }

  pub unwatch_sound : (x from echo : ℕ) → IsDisplay h number (record s { watchers = unwatched s.watchers x from echo })
  unwatch_sound x from echo = record {
    own = sound.own;
    conditions = sound.conditions;
    lists = length-set s.watchers (x - 1) (unwatch_in (listed s.watchers x) from echo) ∙ sound.lists;
    watchers = unwatched_all h s.watchers x from echo sound.watchers;
    named = sound.named;
    asks = sound.asks;
  }

  -- what its operators name, and ask about
  pub named_sound : (x : ℕ) (b : Bool) → IsBetween 1 (object_count h) x
      → IsDisplay h number (record s { named = put s.named x b })
  named_sound x b within = record {
    own = sound.own;
    conditions = sound.conditions;
    lists = sound.lists;
    watchers = sound.watchers;
    named = λ y. at_put (λ z. z ≡ true → IsBetween 1 (object_count h) y) s.named x b y
        (λ same is. subst (IsBetween 1 (object_count h)) (sym same) within) (sound.named y);
    asks = sound.asks;
  }

  pub asked_sound : (o d : ℕ) → IsBetween 1 (domain_count h) d
      → IsDisplay h number (record s { asks = put s.asks o (Some d) })
  asked_sound o d within = record {
    own = sound.own;
    conditions = sound.conditions;
    lists = sound.lists;
    watchers = sound.watchers;
    named = sound.named;
    asks = λ p. at_put (λ z. IfSome z (IsBetween 1 (domain_count h))) s.asks o (Some d) p (λ same. within)
        (sound.asks p);
  }

  pub answered_sound : (d : ℕ) → IsDisplay h number
      (record s { asks = λ o. if has_asked s d o then None else s.asks o })
  answered_sound d = record {
    own = sound.own;
    conditions = sound.conditions;
    lists = sound.lists;
    watchers = sound.watchers;
    named = sound.named;
    asks = λ o. choose (λ z. IfSome z (IsBetween 1 (domain_count h))) (has_asked s d o) None (s.asks o) (λ t. tt)
        (λ f. sound.asks o);
  }

-- a start
pub first_sound : (h : Hierarchy) (tree : IsTree h) (number : ℕ) → IsDisplay h number (first_display h number)
first_sound h tree number = record {
  own = λ x. by (is_kept_by h number x) refl x (first_state h x);
  conditions = λ x. within x (is_kept_by h number x);
  lists = length-replicate (object_count h) [];
  watchers = λ x. subst (AllByRecursion (IsWatcher h)) (sym (read_none (object_count h) (x - 1))) tt;
  named = λ x is. absurd (false≢true is);
  asks = λ o. tt;
}
  where
    by : (b : Bool) → {c : Bool} → b ≡ c → (x : ℕ) (o : Option ℕ)
        → IfSome (if c then option_map (λ state. condition state 0) o else None) (λ d. b ≡ true)
    by b {c = true} is x None = tt
    by b {c = true} is x (Some state) = is
    by b {c = false} is x o = tt

    within : (x : ℕ) (b : Bool)
        → IfSome (if b then option_map (λ state. condition state 0) (first_state h x) else None) (IsCondition h)
    within x false = tt
    within x true = state (first_state h x) refl
      where
        state : (o : Option ℕ) → first_state h x ≡ o
            → IfSome (option_map (λ state. condition state 0) o) (IsCondition h)
        state None is = tt
        state (Some first) is = record { state = first_in h tree x first is; sequence = omega arith }
