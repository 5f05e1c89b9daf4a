-- The numbers of a domain's devices rise, and are numbers of devices.
use Rattle.std.proofs.Common.{◌≡◌, ℕ, zero, suc, ◌+◌, ◌<◌, ◌≤◌, Bool, true, false, List, [], ◌∷◌, length, get_or, map}
use Rattle.std.proofs.Common.{take, cond, refl, arith}
use Rattle.std.specs.Prelude.{count_by, ◌==◌, if◌then◌else◌}
use Rattle.std.specs.List.{AllByRecursion, list_any}
use Rattle.std.proofs.lemmas.Bool.Decides.{nat_tests}
use Rattle.std.proofs.lemmas.List.Sums.{sum_by-cons}
use Rattle.smi_base.specs.declared.trees.TheConstants.{MOST_DEVICES, MOST_DEVICES_OF_A_DOMAIN}
use Rattle.smi_tree.specs.Hierarchy.{Hierarchy, is_device_of}
use Rattle.smi_tree.specs.Lawful.{IsTree}
use Rattle.smi_tree.specs.Lookups.{numbers_from, devices_of}

-- each number is one of this many from the first on
pub record IsFrom (first count n : ℕ) : Type 0 where
  pub least : first ≤ n
  pub most : n < first + count

IsFrom-later : (first count : ℕ) (ns : List ℕ) → AllByRecursion (IsFrom (first + 1) count) ns
    → AllByRecursion (IsFrom first (suc count)) ns
IsFrom-later first count [] all = tt
IsFrom-later first count (n ∷ ns) all =
    (record { least = omega (arith, all.0.least); most = omega (arith, all.0.most) }, IsFrom-later first count ns all.1)

pub numbers_from-IsFrom : {X : Type 0} (test : X → Bool) (first : ℕ) (rows : List X)
    → AllByRecursion (IsFrom first (length rows)) (numbers_from test first rows)
numbers_from-IsFrom test first [] = tt
numbers_from-IsFrom test first (row ∷ rows) =
    let later = IsFrom-later first (length rows) (numbers_from test (first + 1) rows)
    (numbers_from-IsFrom test (first + 1) rows) in
    elim (test row) as (λ b. AllByRecursion (IsFrom first (suc (length rows)))
    (if b then first ∷ numbers_from test (first + 1) rows else numbers_from test (first + 1) rows))
    [ true ↦ (record { least = omega arith; most = omega arith }, later) | false ↦ later ]

-- each number is above all before it
abbrev pub Rises : List ℕ → Type 0
Rises [] = Unit {0}
Rises (n ∷ ns) = AllByRecursion (λ m. n < m) ns × Rises ns

above_first : (first count : ℕ) (ns : List ℕ) → AllByRecursion (IsFrom (first + 1) count) ns
    → AllByRecursion (λ m. first < m) ns
above_first first count [] all = tt
above_first first count (n ∷ ns) all = (omega (arith, all.0.least), above_first first count ns all.1)

pub numbers_from-Rises : {X : Type 0} (test : X → Bool) (first : ℕ) (rows : List X)
    → Rises (numbers_from test first rows)
numbers_from-Rises test first [] = tt
numbers_from-Rises test first (row ∷ rows) =
    let later = numbers_from-Rises test (first + 1) rows in
    let above = above_first first (length rows) (numbers_from test (first + 1) rows)
    (numbers_from-IsFrom test (first + 1) rows) in
    elim (test row) as
    (λ b. Rises (if b then first ∷ numbers_from test (first + 1) rows else numbers_from test (first + 1) rows))
    [ true ↦ (above, later) | false ↦ later ]

pub all_at : (P : ℕ → Type 0) (ns : List ℕ) (i d : ℕ) → AllByRecursion P ns → i < length ns → P (get_or ns i d)
all_at P [] i d all within = absurd (omega arith)
all_at P (n ∷ ns) zero d all within = all.0
all_at P (n ∷ ns) (suc i) d all within = all_at P ns i d all.1 (omega arith)

-- none of the numbers before a place is the one there
pub not_before : (c : ℕ) (ns : List ℕ) (i d : ℕ) → Rises ns → i < length ns
    → list_any (λ y. y == c + get_or ns i d) (take i (map (λ n. c + n) ns)) ≡ false
not_before c [] i d rises within = absurd (omega arith)
not_before c (n ∷ ns) zero d rises within = refl
not_before c (n ∷ ns) (suc i) d rises within =
    let above : n < get_or ns i d = all_at (λ m. n < m) ns i d rises.0 (omega arith) in
    let other : (c + n == c + get_or ns i d) ≡ false = grind (arith, nat_tests) in
    rw (other, not_before c ns i d rises.1 (omega arith)) refl

-- as many numbers as rows that pass
pub length-numbers_from : {X : Type 0} (test : X → Bool) (first : ℕ) (rows : List X)
    → length (numbers_from test first rows) ≡ count_by test rows
length-numbers_from test first [] = refl
length-numbers_from test first (row ∷ rows) =
    let later : length (numbers_from test (first + 1) rows)
    ≡ count_by test rows = length-numbers_from test (first + 1) rows in
    let each : count_by test (row ∷ rows) ≡ cond (test row) 1 0
    + count_by test rows = sum_by-cons (λ r. cond (test r) 1 0) row rows in
    rw each (elim (test row) as
    (λ b. length (if b then first ∷ numbers_from test (first + 1) rows else numbers_from test (first + 1) rows)
    ≡ cond b 1 0 + count_by test rows)
    [ true ↦ omega (arith, later) | false ↦ omega (arith, later) ])

-- the numbers of a domain's devices are numbers of devices
pub device_at : (h : Hierarchy) (domain i d : ℕ) → IsTree h → i < length (devices_of h domain)
    → IsFrom 1 MOST_DEVICES (get_or (devices_of h domain) i d)
device_at h domain i d tree within =
    let at : IsFrom 1 (length h.devices) (get_or (devices_of h domain) i d) =
    all_at (IsFrom 1 (length h.devices)) (devices_of h domain) i d
    (numbers_from-IsFrom (is_device_of domain) 1 h.devices) within in
    record {
      least = at.least;
      most = omega (arith, at.most, tree.lawful.devices.rows, tree.lawful.devices.most);
    }

pub few_devices : (h : Hierarchy) (domain : ℕ) → IsTree h → length (devices_of h domain) ≤ MOST_DEVICES_OF_A_DOMAIN
few_devices h domain tree =
    omega (arith, length-numbers_from (is_device_of domain) 1 h.devices, tree.lawful.devices.of_domain domain)
