-- The children of a domain: who is among them, and that none occurs twice.
use Rattle.std.proofs.Common.{◌≡◌, ℕ, zero, suc, ◌+◌, ◌-◌, ◌<◌, ◌≤◌, Bool, true, false, List, [], ◌∷◌, length, get_or}
use Rattle.std.proofs.Common.{take, Option, Some, None, refl, ◌∙◌, arith}
use Rattle.std.specs.Prelude.{◌==◌, ◌||◌, if◌then◌else◌, slice_get, option_and_then}
use Rattle.std.specs.Option.{option_map_or}
use Rattle.std.proofs.lemmas.Bool.{eqb-true, eq-eqb}
use Rattle.std.proofs.lemmas.Bool.Decides.{nat_tests}
use Rattle.smi_tree.specs.Hierarchy.{Hierarchy, is_child_of}
use Rattle.smi_tree.specs.Lookups.{numbers_from, children_of}
use Rattle.smi_tree.specs.declared.row.Domain.{Domain}
use Rattle.smi_tree.specs.Roles.{is_parent}
use Rattle.smi_station_grants.specs.Children.{is_among}

-- no number is before the first
none_before : {X : Type 0} (test : X → Bool) (first : ℕ) (rows : List X) (x : ℕ) → x < first
    → is_among (numbers_from test first rows) x ≡ false
none_before test first [] x below = refl
none_before test first (row ∷ rows) x below =
    let later : is_among (numbers_from test (first + 1) rows) x
    ≡ false = none_before test (first + 1) rows x (omega arith) in
    let other : (first == x) ≡ false = grind (arith, nat_tests) in
    elim (test row) as
    (λ b. is_among (if b then first ∷ numbers_from test (first + 1) rows else numbers_from test (first + 1) rows) x
    ≡ false)
    [ true ↦ rw (other, later) refl | false ↦ later ]

-- a number is among them where its row passes
among_numbers : {X : Type 0} (test : X → Bool) (first : ℕ) (rows : List X) (x : ℕ) → first ≤ x
    → is_among (numbers_from test first rows) x ≡ option_map_or test (slice_get rows (x - first)) false
among_numbers test first [] x from = refl
among_numbers test first (row ∷ rows) x from = by_first (λ w. among_numbers test (first + 1) rows x w) (first == x) refl
  where
    by_first : (first + 1 ≤ x → is_among (numbers_from test (first + 1) rows) x
        ≡ option_map_or test (slice_get rows (x - (first + 1))) false) → (here : Bool) → (first == x) ≡ here
        → is_among (if test row then first ∷ numbers_from test (first + 1) rows
        else numbers_from test (first + 1) rows) x
        ≡ option_map_or test (slice_get (row ∷ rows) (x - first)) false
    by_first rest true is =
        let same : first ≡ x = eqb-true first x is in
        let none : is_among (numbers_from test (first + 1) rows) x
        ≡ false = none_before test (first + 1) rows x (omega (arith, same)) in
        let nought : x - first ≡ 0 = omega (arith, same) in
        rw nought
        (elim (test row) as
        (λ b. is_among (if b then first ∷ numbers_from test (first + 1) rows
        else numbers_from test (first + 1) rows) x ≡ b)
        [ true ↦ rw is refl | false ↦ none ])
    by_first rest false is =
        let further : first + 1 ≤ x = grind (arith, nat_tests) in
        let later : is_among (numbers_from test (first + 1) rows) x
        ≡ option_map_or test (slice_get rows (x - (first + 1))) false = rest further in
        let place : x - first ≡ suc (x - (first + 1)) = omega arith in
        rw place
        (elim (test row) as
        (λ b. is_among (if b then first ∷ numbers_from test (first + 1) rows
        else numbers_from test (first + 1) rows) x ≡ option_map_or test (slice_get rows (x - (first + 1))) false)
        [ true ↦ rw is later | false ↦ later ])

-- the children of a domain are the domains whose parent it is
pub among_children : (h : Hierarchy) (d x : ℕ) → is_among (children_of h d) x ≡ is_parent h x d
among_children h d zero = none_before (is_child_of d) 1 h.domains 0 (omega arith)
among_children h d (suc n) =
    let positive : (suc n == 0) ≡ false = grind (arith, nat_tests) in
    rw positive (among_numbers (is_child_of d) 1 h.domains (suc n) (omega arith)
    ∙ by_row (slice_get h.domains (suc n - 1)))
  where
    by_row : (o : Option Domain) → option_map_or (is_child_of d) o false
        ≡ option_map_or (λ m. m == d) (option_and_then (λ row. row.parent) o) false
    by_row None = refl
    by_row (Some row) = refl

-- the numbers are no less than the first
at_least : {X : Type 0} (test : X → Bool) (first : ℕ) (rows : List X) (i d : ℕ)
    → i < length (numbers_from test first rows) → first ≤ get_or (numbers_from test first rows) i d
at_least test first [] i d within = absurd (omega arith)
at_least test first (row ∷ rows) i d within = by_test (λ j w. at_least test (first + 1) rows j d w) (test row) within
  where
    by_place : ((j : ℕ) → j < length (numbers_from test (first + 1) rows)
        → first + 1 ≤ get_or (numbers_from test (first + 1) rows) j d)
        → (j : ℕ) → j < suc (length (numbers_from test (first + 1) rows))
        → first ≤ get_or (first ∷ numbers_from test (first + 1) rows) j d
    by_place rest zero w = omega arith
    by_place rest (suc j) w = omega (arith, rest j (omega arith))

    by_test : ((j : ℕ) → j < length (numbers_from test (first + 1) rows)
        → first + 1 ≤ get_or (numbers_from test (first + 1) rows) j d)
        → (b : Bool)
        → i < length (if b then first ∷ numbers_from test (first + 1) rows else numbers_from test (first + 1) rows)
        → first ≤ get_or (if b then first ∷ numbers_from test (first + 1) rows
        else numbers_from test (first + 1) rows) i d
    by_test rest true w = by_place rest i w
    by_test rest false w = omega (arith, rest i w)

-- none occurs twice
fresh_numbers : {X : Type 0} (test : X → Bool) (first : ℕ) (rows : List X) (i d : ℕ)
    → i < length (numbers_from test first rows)
    → is_among (take i (numbers_from test first rows)) (get_or (numbers_from test first rows) i d) ≡ false
fresh_numbers test first [] i d within = absurd (omega arith)
fresh_numbers test first (row ∷ rows) i d within =
    by_test (λ j w. fresh_numbers test (first + 1) rows j d w) (test row) within
  where
    by_place : ((j : ℕ) → j < length (numbers_from test (first + 1) rows)
        → is_among (take j (numbers_from test (first + 1) rows)) (get_or (numbers_from test (first + 1) rows) j d)
        ≡ false)
        → (j : ℕ) → j < suc (length (numbers_from test (first + 1) rows))
        → is_among (take j (first ∷ numbers_from test (first + 1) rows))
        (get_or (first ∷ numbers_from test (first + 1) rows) j d) ≡ false
    by_place rest zero w = refl
    by_place rest (suc j) w =
        let inside : j < length (numbers_from test (first + 1) rows) = omega arith in
        let above : first + 1 ≤ get_or (numbers_from test (first + 1) rows) j d = at_least test (first + 1) rows j d
        inside in
        let other : (first == get_or (numbers_from test (first + 1) rows) j d) ≡ false = grind (arith, nat_tests) in
        rw (other, rest j inside) refl

    by_test : ((j : ℕ) → j < length (numbers_from test (first + 1) rows)
        → is_among (take j (numbers_from test (first + 1) rows)) (get_or (numbers_from test (first + 1) rows) j d)
        ≡ false)
        → (b : Bool)
        → i < length (if b then first ∷ numbers_from test (first + 1) rows else numbers_from test (first + 1) rows)
        → is_among (take i (if b then first ∷ numbers_from test (first + 1) rows
        else numbers_from test (first + 1) rows))
        (get_or (if b then first ∷ numbers_from test (first + 1) rows else numbers_from test (first + 1) rows) i d)
        ≡ false
    by_test rest true w = by_place rest i w
    by_test rest false w = rest i w

pub fresh_child : (h : Hierarchy) (d i e : ℕ) → i < length (children_of h d)
    → is_among (take i (children_of h d)) (get_or (children_of h d) i e) ≡ false
fresh_child h d i e within = fresh_numbers (is_child_of d) 1 h.domains i e within

-- one at a place is among them
pub at_among : (xs : List ℕ) (i d : ℕ) → i < length xs → is_among xs (get_or xs i d) ≡ true
at_among [] i d within = absurd (omega arith)
at_among (x ∷ xs) zero d within = rw (eq-eqb x x refl) refl
at_among (x ∷ xs) (suc i) d within = rw (at_among xs i d (omega arith))
    (elim (x == get_or xs i d) as (λ b. (b || true) ≡ true) [ true ↦ refl | false ↦ refl ])
