-- What each declaration keeps.
use Rattle.std.proofs.Common.{◌≡◌, ℕ, suc, zero, ◌+◌, ◌-◌, ◌<◌, ◌≤◌, Bool, true, false, cond, List, [], ◌∷◌, ◌++◌}
use Rattle.std.proofs.Common.{length, Option, Some, None, Result, Ok, Err, refl, ap, ◌∙◌, sym, ◌⊎◌, inl, inr, arith}
use Rattle.std.proofs.lemmas.Bool.Decides.{nat_tests}
use Rattle.std.specs.Prelude.{◌==◌, option_map, slice_get, ok_or}
use Rattle.std.specs.List.{AllByRecursion, position_from}
use Rattle.std.specs.Str.{bytes_eq}
use Rattle.std.proofs.lemmas.Option.{slice_get_within}
use Rattle.smi_tree.proofs.Cutting.{either}
use Rattle.smi_tree.specs.Fault.{◌>>=◌}
use Rattle.smi_tree.specs.Name.{number_of}
use Rattle.smi_tree.specs.ClassTable.{ClassTable}
use Rattle.smi_tree.specs.Hierarchy.{entry}
use Rattle.smi_tree.specs.Lawful.{IsBetween, kind_in, AreOperators, IsRule, IsClass, AreClasses, IsMove, AreDomains}
use Rattle.smi_tree.specs.Lawful.{AreDevices}
use Rattle.smi_tree.specs.Additions.{known}
use Rattle.smi_tree.specs.declared.fault.Fault.{Fault}
use Rattle.smi_tree.specs.declared.fault.Fault.TheVariants as faults
use Rattle.smi_tree.specs.declared.declaration.ClassKind.{ClassKind}
use Rattle.smi_tree.specs.declared.declaration.ClassKind.TheVariants as kind
use Rattle.smi_tree.specs.declared.row.Domain.{Domain}
use Rattle.smi_tree.specs.declared.row.Device.{Device}
use Rattle.smi_tree.specs.declared.row.Move.{Move}
use Rattle.smi_tree.specs.declared.row.Rule.{Rule}

-- what holds wherever there is no fault
abbrev pub Always : {X : Type 0} → (X → Type 0) → Result X Fault → Type 0
Always P (Ok x) = P x
Always P (Err fault) = Unit {0}

pub Always-then : {X Y : Type 0} (P : Y → Type 0) (r : Result X Fault) (next : X → Result Y Fault) →
    ((x : X) → r ≡ Ok x → Always P (next x)) → Always P (r >>= next)
Always-then P (Ok x) next h = h x refl
Always-then P (Err fault) next h = tt

pub Always-unless : {Y : Type 0} (P : Y → Type 0) (b : Bool) (fault : Fault) (r : Result Y Fault) →
    (b ≡ false → Always P r) → Always P (cond b (Err fault) r)
Always-unless P true fault r h = tt
Always-unless P false fault r h = h refl

pub Always-or : {X : Type 0} (P : X → Type 0) (b : Bool) (x : X) (r : Result X Fault) → P x → Always P r
    → Always P (cond b (Ok x) r)
Always-or P true x r now later = now
Always-or P false x r now later = later

pub Always-where : {Y : Type 0} (P : Y → Type 0) (b : Bool) (fault : Fault) (r : Result Y Fault) →
    (b ≡ true → Always P r) → Always P (cond b r (Err fault))
Always-where P true fault r h = h refl
Always-where P false fault r h = tt

-- rows and numbers
pub entry-suc : {X : Type 0} (rows : List X) (k : ℕ) → entry rows (suc k) ≡ slice_get rows k
entry-suc rows k =
    let back : suc k - 1 ≡ k = omega arith in
    let test : (suc k == 0) ≡ false = grind (arith, nat_tests) in
    rw (test, back) refl

slice_get-push : {X : Type 0} (rows : List X) (row other : X) (k : ℕ) → slice_get (rows ++ row ∷ []) k ≡ Some other →
    (slice_get rows k ≡ Some other) ⊎ ((k ≡ length rows) × (other ≡ row))
slice_get-push [] row other zero h = inr (refl, cc)
slice_get-push [] row other (suc k) h = cc
slice_get-push (x ∷ rows) row other zero h = inl h
slice_get-push (x ∷ rows) row other (suc k) h = elim (slice_get-push rows row other k h) [
  | inl old ↦ inl old
  | inr new ↦ inr (ap suc new.0, new.1)
]

slice_get-old : {X : Type 0} (rows : List X) (row other : X) (k : ℕ) → slice_get rows k ≡ Some other →
    slice_get (rows ++ row ∷ []) k ≡ Some other
slice_get-old [] row other k h = cc
slice_get-old (x ∷ rows) row other zero h = h
slice_get-old (x ∷ rows) row other (suc k) h = slice_get-old rows row other k h

pub no-entry : {X : Type 0} (n : ℕ) (row : X) → entry [] n ≡ Some row → ⊥
no-entry zero row is = cc
no-entry {X} (suc k) row is = let none : slice_get {X = X} [] k ≡ Some row = sym (entry-suc [] k) ∙ is in cc

pub entry-push : {X : Type 0} (rows : List X) (row other : X) (n : ℕ) → entry (rows ++ row ∷ []) n ≡ Some other →
    (entry rows n ≡ Some other) ⊎ ((n ≡ length rows + 1) × (other ≡ row))
entry-push rows row other zero h = cc
entry-push rows row other (suc k) h =
    elim (slice_get-push rows row other k (sym (entry-suc (rows ++ row ∷ []) k) ∙ h)) [
      | inl old ↦ inl (entry-suc rows k ∙ old)
      | inr new ↦ inr (omega (arith, new.0), new.1)
    ]

pub entry-old : {X : Type 0} (rows : List X) (row other : X) (n : ℕ) → entry rows n ≡ Some other →
    entry (rows ++ row ∷ []) n ≡ Some other
entry-old rows row other zero h = cc
entry-old rows row other (suc k) h =
    entry-suc (rows ++ row ∷ []) k ∙ slice_get-old rows row other k (sym (entry-suc rows k) ∙ h)

pub within-entry : {X : Type 0} (rows : List X) (other : X) (n : ℕ) → entry rows n ≡ Some other
    → IsBetween 1 (length rows) n
within-entry rows other zero h = cc
within-entry rows other (suc k) h =
    let within = slice_get_within rows k other (sym (entry-suc rows k) ∙ h) in
    record { least = omega arith; most = omega (arith, within) }

position_from-between : (p : List ℕ → Bool) (from found : ℕ) (names : List (List ℕ))
    → position_from p from names ≡ Some found →
    (from ≤ found) × (found < from + length names)
position_from-between p from found [] h = cc
position_from-between p from found (name ∷ names) h = elim (either (p name)) [
  | inl fits ↦
      (let same : from ≡ found = (let e : Some from
      ≡ Some found = sym (ap (λ (b : Bool). cond b (Some from) (position_from p (from + 1) names)) fits) ∙ h in cc) in
      (omega (arith, same), omega (arith, same)))
  | inr on ↦ (let later = position_from-between p (from + 1) found names
      (sym (ap (λ (b : Bool). cond b (Some from) (position_from p (from + 1) names)) on) ∙ h) in
      (omega (arith, later.0), omega (arith, later.1)))
]

pub number_of-between : (names : List (List ℕ)) (name : List ℕ) (n : ℕ) → number_of names name ≡ Some n
    → IsBetween 1 (length names) n
number_of-between names name n h =
    let found = position_from-between (bytes_eq name) 1 n names h in
    record { least = found.0; most = omega (arith, found.1) }

known_number : (r : Option ℕ) (n : ℕ) → ok_or r faults.UnknownName ≡ Ok n → r ≡ Some n
known_number (Some m) n h = let e : m ≡ n = cc in ap Some e
known_number None n h = cc

pub known-between : (names : List (List ℕ)) (name : List ℕ) (n : ℕ) → known names name ≡ Ok n
    → IsBetween 1 (length names) n
known-between names name n h = number_of-between names name n (known_number (number_of names name) n h)

-- limits that grow
pub between-more : (low high more n : ℕ) → high ≤ more → IsBetween low high n → IsBetween low more n
between-more low high more n grown h = record { least = h.least; most = omega arith }

-- classes that keep their kinds
pub record Keeps (classes more : List ClassTable) : Type 0 where
  pub kinds : (class : ℕ) (which : ClassKind) → kind_in classes class ≡ Some which → kind_in more class ≡ Some which

pub Keeps-same : (classes : List ClassTable) → Keeps classes classes
Keeps-same classes = record { kinds = λ _ _ h. h }

pub kind-table : (r : Option ClassTable) (which : ClassKind) → option_map (λ table. table.kind) r ≡ Some which →
    (table : ClassTable) × (r ≡ Some table) × (table.kind ≡ which)
kind-table (Some table) which h = (table, refl, cc)
kind-table None which h = cc

pub Keeps-push : (classes : List ClassTable) (table : ClassTable) → Keeps classes (classes ++ table ∷ [])
Keeps-push classes table = record {
  kinds = λ class which h. let t = kind-table (entry classes class) which h in
      ap (option_map (λ (x : ClassTable). x.kind)) (entry-old classes table t.0 class t.1) ∙ ap Some t.2;
}

-- more of the others
pub operators-more : (stations more : ℕ) (names : List (List ℕ)) (homes : List ℕ) → stations ≤ more →
    AreOperators stations names homes → AreOperators more names homes
operators-more stations more names homes grown h = record {
  most = h.most;
  rows = h.rows;
  each = λ operator home is. between-more 1 stations more home grown (h.each operator home is);
  of_station = h.of_station;
}

pub all-more : (low high more : ℕ) (ns : List ℕ) → high ≤ more → AllByRecursion (IsBetween low high) ns
    → AllByRecursion (IsBetween low more) ns
all-more low high more [] grown h = h
all-more low high more (n ∷ ns) grown h = (between-more low high more n grown h.0, all-more low high more ns grown h.1)

pub rules-more : (states more : ℕ) (rules : List Rule) → states ≤ more → AllByRecursion (IsRule states) rules
    → AllByRecursion (IsRule more) rules
rules-more states more [] grown h = h
rules-more states more (rule ∷ rules) grown h = (
  record {
    state = between-more 1 states more rule.state grown h.0.state;
    target = between-more 1 states more rule.target grown h.0.target;
  },
  rules-more states more rules grown h.1,
)

pub class-more : (states more actions others : ℕ) (table : ClassTable) → states ≤ more → actions ≤ others →
    IsClass states actions table → IsClass more others table
class-more states more actions others table grown taller h = record {
  first = between-more 1 states more table.first grown h.first;
  accepted = all-more 1 actions others table.accepted taller h.accepted;
  rules = rules-more states more table.rules grown h.rules;
  most = h.most;
}

pub classes-more : (states more actions others : ℕ) (names : List (List ℕ)) (classes : List ClassTable)
    → states ≤ more → actions ≤ others →
    AreClasses states actions names classes → AreClasses more others names classes
classes-more states more actions others names classes grown taller h = record {
  most = h.most;
  rows = h.rows;
  each = λ class table is. class-more states more actions others table grown taller (h.each class table is);
}

pub move-more : (states more actions others : ℕ) (classes later : List ClassTable) (row : Move) → states ≤ more
    → actions ≤ others →
    Keeps classes later → IsMove states actions classes row → IsMove more others later row
move-more states more actions others classes later row grown taller kept h = record {
  class = kept.kinds row.class kind.Device h.class;
  from = between-more 1 states more row.from grown h.from;
  action = between-more 1 actions others row.action taller h.action;
  to = between-more 1 states more row.to grown h.to;
}

pub domains-more : (stations more : ℕ) (classes later : List ClassTable) (names : List (List ℕ))
    (domains : List Domain) → stations ≤ more →
    Keeps classes later → AreDomains stations classes names domains → AreDomains more later names domains
domains-more stations more classes later names domains grown kept h = record {
  most = h.most;
  rows = h.rows;
  each = λ domain row is. (let old = h.each domain row is in record {
    station = between-more 1 stations more row.station grown old.station;
    class = kept.kinds row.class kind.Unit old.class;
    parent = old.parent;
  });
  children = h.children;
  depth = h.depth;
}

pub devices-more : (domains more : ℕ) (classes later : List ClassTable) (names : List (List ℕ))
    (devices : List Device) → domains ≤ more →
    Keeps classes later → AreDevices domains classes names devices → AreDevices more later names devices
devices-more domains more classes later names devices grown kept h = record {
  most = h.most;
  rows = h.rows;
  each = λ device row is. (let old = h.each device row is in record {
    domain = between-more 1 domains more row.domain grown old.domain;
    class = kept.kinds row.class kind.Device old.class;
  });
  of_domain = h.of_domain;
}
