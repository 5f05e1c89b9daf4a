-- Each declaration keeps a hierarchy within its limits.
use Rattle.std.proofs.Common.{◌≡◌, ℕ, suc, zero, ◌+◌, ◌-◌, ◌<◌, ◌≤◌, Bool, true, false, cond, List, [], ◌∷◌, ◌++◌}
use Rattle.std.proofs.Common.{length, Option, Some, None, Result, Ok, Err, refl, ap, ◌∙◌, sym, subst, ◌⊎◌, inl, inr}
use Rattle.std.proofs.Common.{arith, length-append, length-set}
use Rattle.std.proofs.lemmas.Bool.Decides.{nat_tests}
use Rattle.std.specs.Prelude.{◌==◌, nat_lt, is_some, count_by, option_map, option_and_then, slice_get, slice_set}
use Rattle.std.specs.Prelude.{ok_or, ◌&&◌}
use Rattle.std.specs.Option.{option_map_or}
use Rattle.std.specs.List.{AllByRecursion, list_any, sum_by}
use Rattle.std.proofs.lemmas.List.Sums.{sum_by-append}
use Rattle.smi_base.specs.declared.trees.TheConstants.{MOST_ACTIONS, MOST_CHILDREN, MOST_CLASSES, MOST_DEVICES}
use Rattle.smi_base.specs.declared.trees.TheConstants.{MOST_DEVICES_OF_A_DOMAIN, MOST_DOMAINS, MOST_LEVELS}
use Rattle.smi_base.specs.declared.trees.TheConstants.{MOST_OPERATORS, MOST_OPERATORS_OF_A_STATION}
use Rattle.smi_base.specs.declared.trees.TheConstants.{MOST_RULES_OF_A_CLASS, MOST_STATES, MOST_STATIONS}
use Rattle.smi_tree.proofs.Cutting.{either}
use Rattle.smi_tree.proofs.Lawfulness.{Always, Always-then, Always-unless, Always-where, entry-push, entry-suc}
use Rattle.smi_tree.proofs.Lawfulness.{within-entry, kind-table, known-between, Keeps, Keeps-same, Keeps-push}
use Rattle.smi_tree.proofs.Lawfulness.{operators-more, classes-more, move-more, domains-more, devices-more}
use Rattle.smi_tree.proofs.Depth.{AreBelow, depth-push}
use Rattle.smi_tree.specs.Name.{added, is_declared}
use Rattle.smi_tree.specs.ClassTable.{ClassTable, class_table, is_kind}
use Rattle.smi_tree.specs.Hierarchy.{Hierarchy, entry, depth_in, is_child_of, is_device_of, move_in}
use Rattle.smi_tree.specs.Lawful.{IsBetween, kind_in, IsRule, IsClass, IsMove, IsDomain, AreDomains, IsDevice}
use Rattle.smi_tree.specs.Lawful.{IsLawful}
use Rattle.smi_tree.specs.Additions.{known, known_class, known_parent, is_taken, has_room, with_state, with_action}
use Rattle.smi_tree.specs.Additions.{with_station, with_operator, with_class, with_move, with_accepted, with_rule}
use Rattle.smi_tree.specs.Additions.{with_domain, with_device}
use Rattle.smi_tree.specs.declared.fault.Fault.{Fault}
use Rattle.smi_tree.specs.declared.fault.Fault.TheVariants as faults
use Rattle.smi_tree.specs.declared.number.Address.{Address}
use Rattle.smi_tree.specs.declared.declaration.ClassKind.{ClassKind}
use Rattle.smi_tree.specs.declared.declaration.Quantifier.{Quantifier}
use Rattle.smi_tree.specs.declared.declaration.ClassKind.TheVariants as kind
use Rattle.smi_tree.specs.declared.row.Domain.{Domain}
use Rattle.smi_tree.specs.declared.row.Device.{Device}
use Rattle.smi_tree.specs.declared.row.Move.{Move}
use Rattle.smi_tree.specs.declared.row.Rule.{Rule}

-- a list of names that has grown by one
record HasGrown (limit : ℕ) (old names : List (List ℕ)) : Type 0 where
  pub more : length names ≡ suc (length old)
  pub most : length names ≤ limit

grown-from : (limit : ℕ) (old names : List (List ℕ)) (name : List ℕ) (b c : Bool) → c ≡ nat_lt (length old) limit →
    cond b (Err faults.Twice) (cond c (Ok (old ++ name ∷ [])) (Err faults.OverLimit)) ≡ Ok names
    → HasGrown limit old names
grown-from limit old names name true c is h = cc
grown-from limit old names name false false is h = cc
grown-from limit old names name false true is h =
    let same : old ++ name ∷ [] ≡ names = cc in
    let size = ap length (sym same) ∙ length-append old (name ∷ []) in
    let room : length old < limit = grind (arith, nat_tests) in
    record { more = omega (arith, size); most = omega (arith, size) }

grown : (limit : ℕ) (old names : List (List ℕ)) (name : List ℕ) → added limit old name ≡ Ok names
    → HasGrown limit old names
grown limit old names name h = grown-from limit old names name (is_declared old name) (nat_lt (length old) limit) refl h

pub lawful-state : (h : Hierarchy) (name : List ℕ) → IsLawful h → Always IsLawful (with_state h name)
unfolding with_state
lawful-state h name old = Always-then IsLawful (added MOST_STATES h.state_names name)
    (λ names. Ok (record h { state_names = names })) (λ names is.
    let g = grown MOST_STATES h.state_names names name is in
    let more : length h.state_names ≤ length names = omega (arith, g.more) in
    record {
      number = old.number;
      begun = old.begun;
      states = g.most;
      actions = old.actions;
      stations = old.stations;
      addresses = old.addresses;
      operators = old.operators;
      classes = classes-more (length h.state_names) (length names) (length h.action_names) (length h.action_names)
          h.class_names h.classes more (omega arith) old.classes;
      moves = λ place row at. move-more (length h.state_names) (length names) (length h.action_names)
          (length h.action_names) h.classes h.classes row more (omega arith) (Keeps-same h.classes)
          (old.moves place row at);
      domains = old.domains;
      devices = old.devices;
    })

pub lawful-action : (h : Hierarchy) (name : List ℕ) → IsLawful h → Always IsLawful (with_action h name)
unfolding with_action
lawful-action h name old = Always-then IsLawful (added MOST_ACTIONS h.action_names name)
    (λ names. Ok (record h { action_names = names })) (λ names is.
    let g = grown MOST_ACTIONS h.action_names names name is in
    let more : length h.action_names ≤ length names = omega (arith, g.more) in
    record {
      number = old.number;
      begun = old.begun;
      states = old.states;
      actions = g.most;
      stations = old.stations;
      addresses = old.addresses;
      operators = old.operators;
      classes = classes-more (length h.state_names) (length h.state_names) (length h.action_names) (length names)
          h.class_names h.classes (omega arith) more old.classes;
      moves = λ place row at. move-more (length h.state_names) (length h.state_names) (length h.action_names)
          (length names) h.classes h.classes row (omega arith) more (Keeps-same h.classes) (old.moves place row at);
      domains = old.domains;
      devices = old.devices;
    })

pub length-push : {X : Type 0} (rows : List X) (row : X) → length (rows ++ row ∷ []) ≡ suc (length rows)
length-push rows row = length-append rows (row ∷ []) ∙ omega arith

pub lawful-station : (h : Hierarchy) (name : List ℕ) (address : Address) → IsLawful h → 1 ≤ h.number
    → Always IsLawful (with_station h name address)
unfolding with_station
lawful-station h name address old begun = Always-then IsLawful (added MOST_STATIONS h.station_names name)
    (λ names. Ok (record h { station_names = names; addresses = h.addresses ++ address ∷ [] })) (λ names is.
    let g = grown MOST_STATIONS h.station_names names name is in
    let more : length h.station_names ≤ length names = omega (arith, g.more) in
    let longer = length-push h.addresses address in
    record {
      number = old.number;
      begun = λ _. begun;
      states = old.states;
      actions = old.actions;
      stations = g.most;
      addresses = omega (arith, longer, g.more, old.addresses);
      operators = operators-more (length h.station_names) (length names) h.operator_names h.homes more old.operators;
      classes = old.classes;
      moves = old.moves;
      domains = domains-more (length h.station_names) (length names) h.classes h.classes h.domain_names h.domains
          more (Keeps-same h.classes) old.domains;
      devices = old.devices;
    })

-- counts of a list that grows by one
sum_by-one : {X : Type 0} (f : X → ℕ) (x : X) → sum_by f (x ∷ []) ≡ f x
sum_by-one f x = omega arith

count-push : {X : Type 0} (p : X → Bool) (rows : List X) (row : X)
    → count_by p (rows ++ row ∷ []) ≡ count_by p rows + cond (p row) 1 0
count-push {X} p rows row =
    let f : X → ℕ = λ x. cond (p x) 1 0 in
    let more = sum_by-append f rows (row ∷ []) in
    more ∙ ap (λ (n : ℕ). sum_by f rows + n) (sum_by-one f row)

count-within : {X : Type 0} (p : ℕ → X → Bool) (rows : List X) (row : X) (limit owner : ℕ)
    → count_by (p owner) rows ≤ limit →
    (p owner row ≡ true → count_by (p owner) rows < limit) → count_by (p owner) (rows ++ row ∷ []) ≤ limit
count-within p rows row limit owner old room =
    let more = count-push (p owner) rows row in
    elim (either (p owner row)) [
      | inl own ↦ (let one = ap {B = ℕ} (λ (b : Bool). cond {A = ℕ} b 1 0) own in let less = room own in
          omega (arith, more, one, less))
      | inr other ↦ (let none = ap {B = ℕ} (λ (b : Bool). cond {A = ℕ} b 1 0) other in omega (arith, more, none))
    ]

pub both-left : (a b : Bool) → (a && b) ≡ true → a ≡ true
both-left true b h = refl
both-left false b h = h

pub both-right : (a b : Bool) → (a && b) ≡ true → b ≡ true
both-right true b h = h
both-right false b h = cc

pub lt-true : (a b : ℕ) → nat_lt a b ≡ true → a < b
lt-true a b h = grind (arith, nat_tests)

pub eq-true : (a b : ℕ) → (a == b) ≡ true → a ≡ b
eq-true a b h = grind (arith, nat_tests)

abbrev is_at : ℕ → ℕ → Bool
is_at station home = home == station

pub lawful-operator : (h : Hierarchy) (name station : List ℕ) → IsLawful h
    → Always IsLawful (with_operator h name station)
unfolding with_operator
lawful-operator h name station old = Always-then IsLawful (known h.station_names station) _ (λ home is.
    Always-unless IsLawful (is_taken h name) faults.Twice _ (λ fresh.
    Always-where IsLawful (nat_lt (length h.operator_names) MOST_OPERATORS
    && nat_lt (count_by (λ other. other == home) h.homes) 8) faults.OverLimit _ (λ room.
    let some = lt-true (length h.operator_names) MOST_OPERATORS (both-left _ _ room) in
    let few = lt-true (count_by (is_at home) h.homes) MOST_OPERATORS_OF_A_STATION (both-right (nat_lt
    (length h.operator_names) MOST_OPERATORS) _ room) in
    let longer = length-push h.homes home in
    let names = length-push h.operator_names name in
    record {
      number = old.number;
      begun = old.begun;
      states = old.states;
      actions = old.actions;
      stations = old.stations;
      addresses = old.addresses;
      operators = record {
        most = omega (arith, some, names);
        rows = omega (arith, longer, names, old.operators.rows);
        each = λ operator at found. elim (entry-push h.homes home at operator found) [
          | inl before ↦ old.operators.each operator at before
          | inr new ↦ (let P : ℕ → Type 0 = IsBetween 1 (length h.station_names) in
              subst P (sym new.1) (known-between h.station_names station home is))
        ];
        of_station = λ s. count-within is_at h.homes home 8 s (old.operators.of_station s)
            (λ own. let P : ℕ → Type 0 = λ n. count_by (is_at n) h.homes < 8 in subst P (eq-true home s own) few);
      };
      classes = old.classes;
      moves = old.moves;
      domains = old.domains;
      devices = old.devices;
    })))

-- classes
pub always-at : {X : Type 0} (P : X → Type 0) (r : Result X Fault) (x : X) → Always P r → r ≡ Ok x → P x
always-at P (Ok y) x h e = let same : y ≡ x = cc in subst P same h
always-at P (Err fault) x h e = cc

pub known-some : {X : Type 0} (r : Option X) (fault : Fault) (x : X) → ok_or r fault ≡ Ok x → r ≡ Some x
known-some (Some y) fault x h = let same : y ≡ x = cc in ap Some same
known-some None fault x h = cc

is_kind-true : (a b : ClassKind) → is_kind a b ≡ true → a ≡ b
is_kind-true kind.Device kind.Device h = refl
is_kind-true kind.Unit kind.Unit h = refl
is_kind-true kind.Device kind.Unit h = cc
is_kind-true kind.Unit kind.Device h = cc

-- what `known_class` finds
record IsFound (h : Hierarchy) (found : ℕ × ClassTable) : Type 0 where
  pub table : entry h.classes found.0 ≡ Some found.1

found-class : (h : Hierarchy) (name : List ℕ) → Always (IsFound h) (known_class h name)
unfolding known_class
found-class h name = Always-then (IsFound h) (known h.class_names name) _ (λ class is.
    Always-then (IsFound h) (ok_or (entry h.classes class) faults.UnknownName) _ (λ table at.
    record { table = known-some (entry h.classes class) faults.UnknownName table at }))

class-kind : (h : Hierarchy) (found : ℕ × ClassTable) (which : ClassKind) → IsFound h found
    → is_kind found.1.kind which ≡ true →
    kind_in h.classes found.0 ≡ Some which
class-kind h found which is of =
    ap (option_map (λ (table : ClassTable). table.kind)) is.table ∙ ap Some (is_kind-true found.1.kind which of)

pub lawful-class : (h : Hierarchy) (which : ClassKind) (name first : List ℕ) → IsLawful h
    → Always IsLawful (with_class h which name first)
unfolding with_class
lawful-class h which name first old = Always-then IsLawful (known h.state_names first) _ (λ state is.
    Always-then IsLawful (added MOST_CLASSES h.class_names name) _ (λ names more.
    let g = grown MOST_CLASSES h.class_names names name more in
    let longer = length-push h.classes (class_table which state) in
    let kept = Keeps-push h.classes (class_table which state) in
    record {
      number = old.number;
      begun = old.begun;
      states = old.states;
      actions = old.actions;
      stations = old.stations;
      addresses = old.addresses;
      operators = old.operators;
      classes = record {
        most = g.most;
        rows = omega (arith, longer, g.more, old.classes.rows);
        each = λ class table at. elim (entry-push h.classes (class_table which state) table class at) [
          | inl before ↦ old.classes.each class table before
          | inr new ↦ (let P : ClassTable → Type 0 = IsClass (length h.state_names) (length h.action_names) in
              subst P (sym new.1)
              (record {
                first = known-between h.state_names first state is;
                accepted = tt;
                rules = tt;
                most = omega arith;
              }))
        ];
      };
      moves = λ place row at. move-more (length h.state_names) (length h.state_names) (length h.action_names)
          (length h.action_names) h.classes (h.classes ++ class_table which state ∷ []) row (omega arith) (omega arith)
          kept (old.moves place row at);
      domains = domains-more (length h.station_names) (length h.station_names) h.classes
          (h.classes ++ class_table which state ∷ []) h.domain_names h.domains (omega arith) kept old.domains;
      devices = devices-more (length h.domain_names) (length h.domain_names) h.classes
          (h.classes ++ class_table which state ∷ []) h.device_names h.devices (omega arith) kept old.devices;
    }))

pub lawful-move : (h : Hierarchy) (class from action to : List ℕ) → IsLawful h
    → Always IsLawful (with_move h class from action to)
unfolding with_move
lawful-move h class from action to old = Always-then IsLawful (known_class h class) _ (λ found is.
    Always-then IsLawful (known h.state_names from) _ (λ before from_is.
    Always-then IsLawful (known h.action_names action) _ (λ by action_is.
    Always-then IsLawful (known h.state_names to) _ (λ after to_is.
    Always-unless IsLawful (is_some (move_in h.moves found.0 before by)) faults.Twice _ (λ fresh.
    Always-where IsLawful (is_kind found.1.kind kind.Device) faults.OtherKind _ (λ of.
    let row : Move = record { class = found.0; from = before; action = by; to = after } in
    let table = always-at (IsFound h) (known_class h class) found (found-class h class) is in
    record {
      number = old.number;
      begun = old.begun;
      states = old.states;
      actions = old.actions;
      stations = old.stations;
      addresses = old.addresses;
      operators = old.operators;
      classes = old.classes;
      moves = λ place other at. elim (entry-push h.moves row other place at) [
        | inl earlier ↦ old.moves place other earlier
        | inr new ↦ (let P : Move → Type 0 = IsMove (length h.state_names) (length h.action_names) h.classes in
            subst P (sym new.1) (record {
              class = class-kind h found kind.Device table of;
              from = known-between h.state_names from before from_is;
              action = known-between h.action_names action by action_is;
              to = known-between h.state_names to after to_is;
            }))
      ];
      domains = old.domains;
      devices = old.devices;
    }))))))

-- a table in the place of another
slice_get-set : {X : Type 0} (rows : List X) (i : ℕ) (new other : X) (k : ℕ)
    → slice_get (slice_set rows i new) k ≡ Some other →
    (slice_get rows k ≡ Some other) ⊎ ((k ≡ i) × (other ≡ new))
slice_get-set [] i new other k h = inl h
slice_get-set (x ∷ rows) zero new other zero h = inr (refl, cc)
slice_get-set (x ∷ rows) zero new other (suc k) h = inl h
slice_get-set (x ∷ rows) (suc i) new other zero h = inl h
slice_get-set (x ∷ rows) (suc i) new other (suc k) h = elim (slice_get-set rows i new other k h) [
  | inl old ↦ inl old
  | inr same ↦ inr (ap suc same.0, same.1)
]

slice_get-kept : {X : Type 0} (rows : List X) (i : ℕ) (new other : X) (k : ℕ) → slice_get rows k ≡ Some other →
    (slice_get (slice_set rows i new) k ≡ Some other) ⊎ ((k ≡ i) × (slice_get (slice_set rows i new) k ≡ Some new))
slice_get-kept [] i new other k h = inl h
slice_get-kept (x ∷ rows) zero new other zero h = inr (refl, refl)
slice_get-kept (x ∷ rows) zero new other (suc k) h = inl h
slice_get-kept (x ∷ rows) (suc i) new other zero h = inl h
slice_get-kept (x ∷ rows) (suc i) new other (suc k) h = elim (slice_get-kept rows i new other k h) [
  | inl old ↦ inl old
  | inr same ↦ inr (ap suc same.0, same.1)
]

entry-set : {X : Type 0} (rows : List X) (place : ℕ) (new other : X) (n : ℕ) → 1 ≤ place
    → entry (slice_set rows (place - 1) new) n ≡ Some other →
    (entry rows n ≡ Some other) ⊎ ((n ≡ place) × (other ≡ new))
entry-set rows place new other zero some h = cc
entry-set rows place new other (suc k) some h =
    elim (slice_get-set rows (place - 1) new other k (sym (entry-suc (slice_set rows (place - 1) new) k) ∙ h)) [
      | inl old ↦ inl (entry-suc rows k ∙ old)
      | inr same ↦ inr (omega (arith, same.0), same.1)
    ]

entry-kept : {X : Type 0} (rows : List X) (place : ℕ) (new other : X) (n : ℕ) → 1 ≤ place → entry rows n ≡ Some other →
    (entry (slice_set rows (place - 1) new) n ≡ Some other)
    ⊎ ((n ≡ place) × (entry (slice_set rows (place - 1) new) n ≡ Some new))
entry-kept rows place new other zero some h = cc
entry-kept rows place new other (suc k) some h =
    elim (slice_get-kept rows (place - 1) new other k (sym (entry-suc rows k) ∙ h)) [
      | inl old ↦ inl (entry-suc (slice_set rows (place - 1) new) k ∙ old)
      | inr same ↦ inr (omega (arith, same.0), entry-suc (slice_set rows (place - 1) new) k ∙ same.1)
    ]

Keeps-set : (classes : List ClassTable) (place : ℕ) (old new : ClassTable) → 1 ≤ place
    → entry classes place ≡ Some old → old.kind ≡ new.kind →
    Keeps classes (slice_set classes (place - 1) new)
Keeps-set classes place old new some is same = record {
  kinds = λ class which h. (let t = kind-table (entry classes class) which h in
      elim (entry-kept classes place new t.0 class some t.1) [
        | inl stays ↦ ap (option_map (λ (x : ClassTable). x.kind)) stays ∙ ap Some t.2
        | inr changed ↦ (let P : ℕ → Type 0 = λ n. entry classes n ≡ Some t.0 in
            let there : entry classes place ≡ Some t.0 = subst P changed.0 t.1 in
            let one : old ≡ t.0 = (let e : Some old ≡ Some t.0 = sym is ∙ there in cc) in
            ap (option_map (λ (x : ClassTable). x.kind)) changed.1
            ∙ ap Some (sym same ∙ ap (λ (x : ClassTable). x.kind) one ∙ t.2))
      ]);
}

-- one class has another table of the same kind
with_table : (h : Hierarchy) (found : ℕ × ClassTable) (new : ClassTable) → IsLawful h → IsFound h found
    → found.1.kind ≡ new.kind →
    IsClass (length h.state_names) (length h.action_names) new →
    IsLawful (record h { classes = slice_set h.classes (found.0 - 1) new })
with_table h found new old is same fits =
    let place = within-entry h.classes found.1 found.0 is.table in
    let kept = Keeps-set h.classes found.0 found.1 new place.least is.table same in
    let later : List ClassTable = slice_set h.classes (found.0 - 1) new in
    record {
      number = old.number;
      begun = old.begun;
      states = old.states;
      actions = old.actions;
      stations = old.stations;
      addresses = old.addresses;
      operators = old.operators;
      classes = record {
        most = old.classes.most;
        rows = length-set h.classes (found.0 - 1) new ∙ old.classes.rows;
        each = λ class table at. elim (entry-set h.classes found.0 new table class place.least at) [
          | inl before ↦ old.classes.each class table before
          | inr changed ↦ (let P : ClassTable → Type 0 = IsClass (length h.state_names) (length h.action_names) in
              subst P (sym changed.1) fits)
        ];
      };
      moves = λ place row at. move-more (length h.state_names) (length h.state_names) (length h.action_names)
          (length h.action_names) h.classes later row (omega arith) (omega arith) kept (old.moves place row at);
      domains = domains-more (length h.station_names) (length h.station_names) h.classes later h.domain_names
          h.domains (omega arith) kept old.domains;
      devices = devices-more (length h.domain_names) (length h.domain_names) h.classes later h.device_names h.devices
          (omega arith) kept old.devices;
    }

all-push : {X : Type 0} (P : X → Type 0) (xs : List X) (x : X) → AllByRecursion P xs → P x
    → AllByRecursion P (xs ++ x ∷ [])
all-push P [] x h fits = (fits, tt)
all-push P (y ∷ xs) x h fits = (h.0, all-push P xs x h.1 fits)

pub lawful-accepted : (h : Hierarchy) (class action : List ℕ) → IsLawful h
    → Always IsLawful (with_accepted h class action)
unfolding with_accepted
lawful-accepted h class action old = Always-then IsLawful (known_class h class) _ (λ found is.
    Always-then IsLawful (known h.action_names action) _ (λ accepted action_is.
    Always-unless IsLawful (list_any (λ other. other == accepted) found.1.accepted) faults.Twice _ (λ fresh.
    Always-where IsLawful (is_kind found.1.kind kind.Unit) faults.OtherKind _ (λ of.
    let table = always-at (IsFound h) (known_class h class) found (found-class h class) is in
    let before = old.classes.each found.0 found.1 table.table in
    with_table h found (record found.1 { accepted = found.1.accepted ++ accepted ∷ [] }) old table refl (record {
      first = before.first;
      accepted = all-push (IsBetween 1 (length h.action_names)) found.1.accepted accepted before.accepted
          (known-between h.action_names action accepted action_is);
      rules = before.rules;
      most = before.most;
    })))))

pub lawful-rule : (h : Hierarchy) (which : Quantifier) (class state target : List ℕ) → IsLawful h
    → Always IsLawful (with_rule h which class state target)
unfolding with_rule
lawful-rule h which class state target old = Always-then IsLawful (known_class h class) _ (λ found is.
    Always-then IsLawful (known h.state_names state) _ (λ of state_is.
    Always-then IsLawful (known h.state_names target) _ (λ to target_is.
    Always-where IsLawful (is_kind found.1.kind kind.Unit) faults.OtherKind _ (λ unit.
    Always-where IsLawful (nat_lt (length found.1.rules) MOST_RULES_OF_A_CLASS) faults.OverLimit _ (λ room.
    let rule : Rule = record { quantifier = which; state = of; target = to } in
    let table = always-at (IsFound h) (known_class h class) found (found-class h class) is in
    let before = old.classes.each found.0 found.1 table.table in
    let few = lt-true (length found.1.rules) MOST_RULES_OF_A_CLASS room in
    let longer = length-push found.1.rules rule in
    with_table h found (record found.1 { rules = found.1.rules ++ rule ∷ [] }) old table refl (record {
      first = before.first;
      accepted = before.accepted;
      rules = all-push (IsRule (length h.state_names)) found.1.rules rule before.rules (record {
        state = known-between h.state_names state of state_is;
        target = known-between h.state_names target to target_is;
      });
      most = omega (arith, few, longer);
    }))))))

-- domains
known_parent-between : (h : Hierarchy) (parent : Option (List ℕ)) →
    Always (λ above. (p : ℕ) → above ≡ Some p → IsBetween 1 (length h.domain_names) p) (known_parent h parent)
unfolding known_parent
known_parent-between h None = λ p e. cc
known_parent-between h (Some name) =
    Always-then (λ above. (p : ℕ) → above ≡ Some p → IsBetween 1 (length h.domain_names) p)
    (known h.domain_names name) _ (λ n is.
    λ p e. (let same : n ≡ p = cc in let P : ℕ → Type 0 = IsBetween 1 (length h.domain_names) in
    subst P same (known-between h.domain_names name n is)))

room-for_child : (h : Hierarchy) (above : Option ℕ) (p : ℕ) → has_room h above ≡ true
    → option_map_or (λ a. a == p) above false ≡ true →
    count_by (is_child_of p) h.domains < MOST_CHILDREN
unfolding has_room
room-for_child h None p room own = cc
room-for_child h (Some q) p room own =
    let few = lt-true (count_by (is_child_of q) h.domains) MOST_CHILDREN
    (both-left (nat_lt (count_by (is_child_of q) h.domains) MOST_CHILDREN) (nat_lt
    (depth_in h.domains q) MOST_LEVELS) room) in
    let P : ℕ → Type 0 = λ n. count_by (is_child_of n) h.domains < MOST_CHILDREN in
    subst P (eq-true q p own) few

room-below : (h : Hierarchy) (above : Option ℕ) (p : ℕ) → has_room h above ≡ true → above ≡ Some p
    → depth_in h.domains p < 8
unfolding has_room
room-below h None p room is = cc
room-below h (Some q) p room is =
    let few = lt-true (depth_in h.domains q) MOST_LEVELS
    (both-right (nat_lt (count_by (is_child_of q) h.domains) MOST_CHILDREN) (nat_lt
    (depth_in h.domains q) MOST_LEVELS) room) in
    let same : q ≡ p = cc in
    let P : ℕ → Type 0 = λ n. depth_in h.domains n < 8 in
    subst P same few

row-parent : (r : Option Domain) (p : ℕ) → option_and_then (λ row. row.parent) r ≡ Some p
    → (row : Domain) × (r ≡ Some row) × (row.parent ≡ Some p)
row-parent (Some row) p h = (row, refl, h)
row-parent None p h = cc

below-from : (stations : ℕ) (classes : List ClassTable) (names : List (List ℕ)) (domains : List Domain)
    → AreDomains stations classes names domains → AreBelow domains
below-from stations classes names domains h = record {
  below = λ domain parent at. (let r = row-parent (entry domains domain) parent at in
      (h.each domain r.0 r.1).parent parent r.2);
}

pub lawful-domain : (h : Hierarchy) (name station class : List ℕ) (parent : Option (List ℕ)) → IsLawful h
    → Always IsLawful (with_domain h name station class parent)
unfolding with_domain
lawful-domain h name station class parent old =
    Always-then IsLawful (known h.station_names station) _ (λ keeper keeper_is.
    Always-then IsLawful (known_class h class) _ (λ found is.
    Always-then IsLawful (known_parent h parent) _ (λ above above_is.
    Always-unless IsLawful (is_taken h name) faults.Twice _ (λ fresh.
    Always-where IsLawful (is_kind found.1.kind kind.Unit) faults.OtherKind _ (λ of.
    Always-where IsLawful (nat_lt (length h.domain_names) MOST_DOMAINS && has_room h above) faults.OverLimit _ (λ room.
    let row : Domain = record { station = keeper; class = found.0; parent = above } in
    let table = always-at (IsFound h) (known_class h class) found (found-class h class) is in
    let some = lt-true (length h.domain_names) MOST_DOMAINS
    (both-left (nat_lt (length h.domain_names) MOST_DOMAINS) (has_room h above) room) in
    let free = both-right (nat_lt (length h.domain_names) MOST_DOMAINS) (has_room h above) room in
    let names = length-push h.domain_names name in
    let rows = length-push h.domains row in
    let up = always-at (λ (a : Option ℕ). (p : ℕ) → a ≡ Some p → IsBetween 1 (length h.domain_names) p)
    (known_parent h parent) above (known_parent-between h parent) above_is in
    let more : length h.domain_names ≤ length (h.domain_names ++ name ∷ []) = omega (arith, names) in
    record {
      number = old.number;
      begun = old.begun;
      states = old.states;
      actions = old.actions;
      stations = old.stations;
      addresses = old.addresses;
      operators = old.operators;
      classes = old.classes;
      moves = old.moves;
      domains = record {
        most = omega (arith, some, names);
        rows = omega (arith, rows, names, old.domains.rows);
        each = λ domain other at. elim (entry-push h.domains row other domain at) [
          | inl before ↦ old.domains.each domain other before
          | inr new ↦ (let P : Domain → Type 0 = IsDomain (length h.station_names) h.classes domain in
              let equal = old.domains.rows in
              let last = new.0 in
              subst P (sym new.1) (record {
                station = known-between h.station_names station keeper keeper_is;
                class = class-kind h found kind.Unit table of;
                parent = λ p p_is. (let b = up p p_is in (b.least, omega (arith, b.most, equal, last)));
              }))
        ];
        children = λ p. count-within is_child_of h.domains row MOST_CHILDREN p (old.domains.children p)
            (λ own. room-for_child h above p free own);
        depth = depth-push h.domains row (below-from (length h.station_names) h.classes h.domain_names h.domains
            old.domains)
            (λ p p_is. (let b = up p p_is in let equal = old.domains.rows in
            (omega (arith, b.most, equal), room-below h above p free p_is)))
            old.domains.depth;
      };
      devices = devices-more (length h.domain_names) (length (h.domain_names ++ name ∷ [])) h.classes h.classes
          h.device_names h.devices more (Keeps-same h.classes) old.devices;
    }))))))

pub lawful-device : (h : Hierarchy) (name domain class : List ℕ) → IsLawful h
    → Always IsLawful (with_device h name domain class)
unfolding with_device
lawful-device h name domain class old = Always-then IsLawful (known h.domain_names domain) _ (λ place place_is.
    Always-then IsLawful (known_class h class) _ (λ found is.
    Always-unless IsLawful (is_taken h name) faults.Twice _ (λ fresh.
    Always-where IsLawful (is_kind found.1.kind kind.Device) faults.OtherKind _ (λ of.
    Always-where IsLawful (nat_lt (length h.device_names) MOST_DEVICES && nat_lt (count_by
    (is_device_of place) h.devices) MOST_DEVICES_OF_A_DOMAIN)
    faults.OverLimit _ (λ room.
    let row : Device = record { domain = place; class = found.0 } in
    let table = always-at (IsFound h) (known_class h class) found (found-class h class) is in
    let some = lt-true (length h.device_names) MOST_DEVICES
    (both-left (nat_lt (length h.device_names) MOST_DEVICES) (nat_lt (count_by
    (is_device_of place) h.devices) MOST_DEVICES_OF_A_DOMAIN) room) in
    let few = lt-true (count_by (is_device_of place) h.devices) MOST_DEVICES_OF_A_DOMAIN
    (both-right (nat_lt (length h.device_names) MOST_DEVICES) (nat_lt (count_by
    (is_device_of place) h.devices) MOST_DEVICES_OF_A_DOMAIN) room) in
    let names = length-push h.device_names name in
    let rows = length-push h.devices row in
    record {
      number = old.number;
      begun = old.begun;
      states = old.states;
      actions = old.actions;
      stations = old.stations;
      addresses = old.addresses;
      operators = old.operators;
      classes = old.classes;
      moves = old.moves;
      domains = old.domains;
      devices = record {
        most = omega (arith, some, names);
        rows = omega (arith, rows, names, old.devices.rows);
        each = λ device other at. elim (entry-push h.devices row other device at) [
          | inl before ↦ old.devices.each device other before
          | inr new ↦ (let P : Device → Type 0 = IsDevice (length h.domain_names) h.classes in
              subst P (sym new.1)
              (record {
                domain = known-between h.domain_names domain place place_is;
                class = class-kind h found kind.Device table of;
              }))
        ];
        of_domain = λ d. count-within is_device_of h.devices row MOST_DEVICES_OF_A_DOMAIN d (old.devices.of_domain d)
            (λ own. let P : ℕ → Type 0 = λ n. count_by (is_device_of n) h.devices < MOST_DEVICES_OF_A_DOMAIN in
            subst P (eq-true place d own) few);
      };
    })))))
