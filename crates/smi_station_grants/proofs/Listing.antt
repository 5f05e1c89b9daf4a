-- Lists of what there is, one more at a time.
use Rattle.std.proofs.Common.{◌≡◌, ℕ, ◌+◌, ◌≤◌, List, [], ◌∷◌, ◌++◌, length, Option, Some, None, refl, sym, ap, ◌∙◌}
use Rattle.std.proofs.Common.{arith}
use Rattle.std.specs.Prelude.{count_by}
use Rattle.std.specs.List.{filter_map, cons_option, range_with_len}
use Rattle.std.specs.Option.{option_to_list}
use Rattle.std.proofs.lemmas.List.{map-id}
use Rattle.std.proofs.lemmas.List.FromFn.{map-range_with_len_more}
use Rattle.std.proofs.lemmas.List.Elements.{filter_map-append}
use Rattle.std.proofs.lemmas.List.Sums.{sum_by-append, sum_by-cons}
use Rattle.std.proofs.Common.{Bool, true, false, cond}
use Rattle.std.specs.Prelude.{if◌then◌else◌}
use Rattle.smi_base.specs.declared.trees.TheConstants.{MOST_CHILDREN}
use Rattle.smi_tree.specs.Hierarchy.{Hierarchy, is_child_of}
use Rattle.smi_tree.specs.Lawful.{IsTree}
use Rattle.smi_tree.specs.Lookups.{numbers_from, children_of}

range_more : (a n j : ℕ) → a + n ≡ j → range_with_len a (n + 1) ≡ range_with_len a n ++ j ∷ []
range_more a n j e =
    sym (map-id (range_with_len a (n + 1)))
    ∙ map-range_with_len_more (λ x. x) a n j e
    ∙ ap (λ xs. xs ++ j ∷ []) (map-id (range_with_len a n))

-- one more number
pub filter_map_range_more : {Y : Type 0} (f : ℕ → Option Y) (a n j : ℕ) → a + n ≡ j
    → filter_map f (range_with_len a (n + 1)) ≡ filter_map f (range_with_len a n) ++ cons_option (f j) []
filter_map_range_more f a n j e = ap (filter_map f) (range_more a n j e)
    ∙ filter_map-append f (range_with_len a n) (j ∷ [])

-- as many numbers as rows that pass
length-numbers_from : {X : Type 0} (test : X → Bool) (first : ℕ) (rows : List X)
    → length (numbers_from test first rows) ≡ count_by test rows
length-numbers_from test first [] = refl
length-numbers_from test first (row ∷ rows) =
    let later : length (numbers_from test (first + 1) rows)
    ≡ count_by test rows = length-numbers_from test (first + 1) rows in
    let each : count_by test (row ∷ rows) ≡ cond (test row) 1 0
    + count_by test rows = sum_by-cons (λ r. cond (test r) 1 0) row rows in
    rw each (elim (test row) as
    (λ b. length (if b then first ∷ numbers_from test (first + 1) rows else numbers_from test (first + 1) rows)
    ≡ cond b 1 0 + count_by test rows)
    [ true ↦ omega (arith, later) | false ↦ omega (arith, later) ])

pub few_children : (h : Hierarchy) (d : ℕ) → IsTree h → length (children_of h d) ≤ MOST_CHILDREN
few_children h d tree = omega (arith, length-numbers_from (is_child_of d) 1 h.domains, tree.lawful.domains.children d)

listed_once : {Y : Type 0} (o : Option Y) → cons_option o [] ≡ option_to_list o
listed_once None = refl
listed_once (Some y) = refl

-- what comes of one more number is listed after the others
pub range_listed : {Y : Type 0} (f : ℕ → Option Y) (xs ys : List Y) (n : ℕ) (o : Option Y)
    → xs ≡ filter_map f (range_with_len 1 n) → o ≡ f (n + 1) → ys ≡ xs ++ option_to_list o
    → ys ≡ filter_map f (range_with_len 1 (n + 1))
range_listed f xs ys n o before this pushed =
    pushed
    ∙ ap (λ zs. zs ++ option_to_list o) before
    ∙ ap (λ zs. filter_map f (range_with_len 1 n) ++ zs) (sym (listed_once o) ∙ ap (λ z. cons_option z []) this)
    ∙ sym (filter_map_range_more f 1 n (n + 1) (omega arith))

-- one more number is counted, or not
pub count_more : (test : ℕ → Bool) (n : ℕ)
    → count_by test (range_with_len 1 (n + 1)) ≡ count_by test (range_with_len 1 n) + cond (test (n + 1)) 1 0
count_more test n =
    let last : count_by test ((n + 1) ∷ []) ≡ cond (test (n + 1)) 1 0
    + count_by test [] = sum_by-cons (λ x. cond (test x) 1 0) (n + 1) [] in
    let none : count_by test [] ≡ 0 = refl in
    let all : count_by test (range_with_len 1 n ++ (n + 1) ∷ []) ≡ count_by test (range_with_len 1 n)
    + count_by test ((n + 1) ∷ []) = sum_by-append (λ x. cond (test x) 1 0) (range_with_len 1 n) ((n + 1) ∷ []) in
    ap (count_by test) (range_more 1 n (n + 1) (omega arith)) ∙ all ∙ omega (arith, last, none)
