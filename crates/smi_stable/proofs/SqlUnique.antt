-- Each key stands once, so a listing has just the bytes of each key.
use Rattle.std.proofs.Common.{◌≡◌, ◌⊎◌, inl, inr, ℤ, List, [], ◌∷◌, map, filter, find, slice_get, Bool, true, false}
use Rattle.std.proofs.Common.{cond, ◌&&◌, Some, option_map, Ordering, Less, Equal, Greater, refl, sym, ap, subst, ◌∙◌}
use Rattle.std.proofs.Common.{true≢false, length, arith}
use Rattle.std.specs.List.Sorted.{IsPermutation}
use Rattle.std.specs.Ordering.{is_eq, is_ne}
use Rattle.std.proofs.lemmas.Bool.{and_parts, and_from, not-true}
use Rattle.std.proofs.lemmas.Cmp.{tied_itself}
use Rattle.std.proofs.lemmas.List.Sorted.{length_permutation}
use Rattle.sqlite_value.proofs.OrderLemmas.{value_cmp_total}
use Rattle.sqlite.specs.declared.types.Value.TheVariants.{Null, Int}
use Rattle.sqlite.specs.Order.{Row, column, value_cmp, bytes}
use Rattle.sqlite_value.specs.Keys.{plain}
use Rattle.sqlite_sql.specs.Ops.{binary, is_true, from_truth}
use Rattle.sqlite_schema.specs.Rules.{agree, equal, differ, Keeps}
use Rattle.sqlite.specs.Collation.TheVariants.{Binary}
use Rattle.sqlite.specs.Edit.{id_in}
use Rattle.sqlite_schema.specs.declared.schema.Constraint.TheVariants.{Unique}
use Rattle.sqlite_rules.specs.Lists.{Has}
use Rattle.sqlite_rules.proofs.ListLemmas.{all_has, some_from}
use Rattle.sqlite_rules.proofs.TableLemmas.{int_is}
use Rattle.sqlite_rules.proofs.KeyLemmas.{agree_chain, agree_back}
use Rattle.sqlite_rules.proofs.PlaceLemmas.{tied_same}
use Rattle.sqlite_trees.proofs.TreeLemmas.{not_true}
use Rattle.sqlite_trees.proofs.ListLemmas.{filter-map, IsPermutation-filter}
use Rattle.sqlite.specs.Tree.{Trees, rowid}
use Rattle.sqlite.specs.Query.{output, Output}
use Rattle.sqlite.proofs.Callers.{one_permutation}
use Rattle.smi_stable.specs.SqlTable.{stable_schema}
use Rattle.smi_stable.specs.SqlRows.{has_key, at_key, bytes_of, IsKeyed}
use Rattle.smi_stable.specs.SqlListing.{query, Lists, shown_key, listed_at}

not_ne : (o : Ordering) → is_true (from_truth (Some (is_ne o))) ≡ false → o ≡ Equal
not_ne Less h = absurd (true≢false h)
not_ne Equal h = refl
not_ne Greater h = absurd (true≢false h)

same_ints : (m n : ℤ) → differ (Int m) (Int n) ≡ false → value_cmp (Int m) (Int n) ≡ Equal
unfolding binary
same_ints m n h = not_ne (value_cmp (Int m) (Int n)) h

module _ (db : Trees) (keyed : IsKeyed (db 0)) (unique : Keeps Unique stable_schema db) (s d o : ℤ) where
  pub only : (a b : Row) → Has (db 0) a → Has (db 0) b → has_key s d o a ≡ true → has_key s d o b ≡ true → a ≡ b
  only a b at there p q =
      let key : Row = Null ∷ Int s ∷ Int d ∷ Int o ∷ [] in
      let places = 1 ∷ 2 ∷ 3 ∷ [] in
      let alike = agree_chain plain places places places a key b p (agree_back plain places places b key q) in
      let passes = all_has _ (db 0) b unique.0 there in
      let clash = not-true _ (and_parts _ _ passes).0 in
      let same = not_true (differ (rowid a) (rowid b))
      (λ apart. true≢false
      (sym (some_from (λ x. agree plain places x places b && differ (rowid x) (rowid b)) (db 0) a at
      (and_from _ _ alike apart)) ∙ clash)) in
      let i = int_is (rowid a) (all_has _ (db 0) a keyed.1 at) in
      let j = int_is (rowid b) (all_has _ (db 0) b keyed.1 there) in
      tied_same (db 0) a b keyed.0 at there (rw (i, j) (same_ints _ _ (rw (i, j) at same)))

tied : (o : Ordering) → is_true (from_truth (Some (is_eq o))) ≡ true → o ≡ Equal
tied Less h = absurd (true≢false (sym h))
tied Equal h = refl
tied Greater h = absurd (true≢false (sym h))

tied_ints : (m n : ℤ) → equal Binary (Int m) (Int n) ≡ true → value_cmp (Int m) (Int n) ≡ Equal
unfolding binary
tied_ints m n h = tied (value_cmp (Int m) (Int n)) h

itself : (n : ℤ) → (equal Binary (Int n) (Int n) && true) ≡ true
unfolding binary
itself n = ap (λ e. is_true (from_truth (Some (is_eq e))) && true) (tied_itself value_cmp_total (Int n))

-- the one row that has a row's rowid is that row
pub same_id : (rows : List Row) → IsKeyed rows → (r : Row) → Has rows r
    → ((equal Binary (rowid r) (rowid r) && true) ≡ true)
    × ((x : Row) → Has rows x → (equal Binary (rowid x) (rowid r) && true) ≡ true → x ≡ r)
same_id rows keyed r at =
    let i = int_is (rowid r) (all_has _ rows r keyed.1 at) in (
      rw i (itself (id_in (rowid r))),
      λ x there p.
          let j = int_is (rowid x) (all_has _ rows x keyed.1 there) in
          let alike : equal Binary (rowid x) (rowid r) ≡ true = (and_parts _ _ p).0 in
          tied_same rows x r keyed.0 there at (rw (i, j) (tied_ints _ _ (rw (i, j) at alike))),
    )

module _ {X : Type 0} (p : X → Bool) where
  first_kept : (xs : List X) → find p xs ≡ slice_get (filter p xs) 0
  first_kept [] = refl
  first_kept (x ∷ xs) =
      elim (p x) as (λ b. cond b (Some x) (find p xs) ≡ slice_get (cond b (x ∷ filter p xs) (filter p xs)) 0)
      [ true ↦ refl | false ↦ first_kept xs ]

  none_kept : (xs : List X) → ((x : X) → Has xs x → p x ≡ true → ⊥) → filter p xs ≡ []
  none_kept [] none = refl
  none_kept (x ∷ xs) none = rw (not_true (p x) (none x (inl refl))) (none_kept xs (λ y h. none y (inr h)))

-- at most one row of a table passes
pub one_kept : (p : Row → Bool) (rows : List Row) → IsKeyed rows
    → ((a b : Row) → Has rows a → Has rows b → p a ≡ true → p b ≡ true → a ≡ b)
    → (filter p rows ≡ []) ⊎ ((r : Row) × (filter p rows ≡ r ∷ []))
one_kept p [] keyed same = inl refl
one_kept p (r ∷ rows) keyed same = go (p r) refl
    (one_kept p rows (keyed.0.1, keyed.1.1) (λ a b h k. same a b (inr h) (inr k)))
  where
    go : (b : Bool) → p r ≡ b → (filter p rows ≡ []) ⊎ ((x : Row) × (filter p rows ≡ x ∷ []))
        → (cond b (r ∷ filter p rows) (filter p rows) ≡ [])
        ⊎ ((x : Row) × (cond b (r ∷ filter p rows) (filter p rows) ≡ x ∷ []))
    go false is later = later
    go true is later =
        let none : filter p rows ≡ [] = none_kept p rows (λ x h passes.
        let e : r ≡ x = same r x (inl refl) (inr h) is passes in
        let below = all_has _ rows x keyed.0.0 h in
        let tie = tied_itself value_cmp_total (rowid r) in
        let bad : value_cmp (rowid r) (rowid r) ≡ Less = subst (λ y. value_cmp (rowid r) (rowid y) ≡ Less) (sym e)
        below in
        absurd (let c : Equal ≡ Less = sym tie ∙ bad in cc)) in
        inr (r, ap (λ l. r ∷ l) none)

abbrev shows : Row → Output
shows r = output query ([] ∷ r ∷ [])

shown_each : (rows : List Row) → map (output query) (map (λ r. [] ∷ r ∷ []) rows) ≡ map shows rows
shown_each [] = refl
shown_each (r ∷ rows) = ap (λ os. shows r ∷ os) (shown_each rows)

find_shown : (p : Row → Bool) (os : List Output)
    → find p (map (λ (o : Output). o.1) os) ≡ option_map (λ (o : Output). o.1) (find (λ (o : Output). p o.1) os)
find_shown p [] = refl
find_shown p (o ∷ os) =
    elim (p o.1) as (λ b. cond b (Some o.1) (find p (map (λ (x : Output). x.1) os))
    ≡ option_map (λ (x : Output). x.1) (cond b (Some o) (find (λ (x : Output). p x.1) os)))
    [ true ↦ refl | false ↦ find_shown p os ]

-- a listing has under each key what the table has
pub listed : (db : Trees) (out : List Row) → IsKeyed (db 0) → Keeps Unique stable_schema db → Lists (db 0) out
    → (s d o : ℤ) → listed_at s d o out ≡ at_key s d o (db 0)
listed db out keyed unique l s d o =
    let test : Output → Bool = λ x. shown_key s d o x.1 in
    let rows = db 0 in
    let same : IsPermutation (filter test (map shows rows)) (filter test l.ordered) = IsPermutation-filter test _ _
    (subst (λ k. IsPermutation k l.ordered) (shown_each rows) l.same) in
    let kept = subst (λ k. IsPermutation k (filter test l.ordered)) (filter-map test shows rows) same in
    ap (listed_at s d o) l.shown ∙ ap (option_map (λ r. bytes (column r 3)))
    (find_shown (shown_key s d o) l.ordered ∙ ap (option_map (λ (x : Output). x.1)) (first_kept test l.ordered))
    ∙ go (one_kept (has_key s d o) rows keyed (only db keyed unique s d o)) (filter test l.ordered) kept
    ∙ ap (option_map bytes_of) (sym (first_kept (has_key s d o) rows))
  where
    no_items : {X : Type 0} (xs : List X) → length xs ≡ 0 → xs ≡ []
    no_items [] e = refl
    no_items (x ∷ xs) e = absurd (omega arith)

    go : (filter (has_key s d o) (db 0) ≡ []) ⊎ ((r : Row) × (filter (has_key s d o) (db 0) ≡ r ∷ []))
        → (os : List Output) → IsPermutation (map shows (filter (has_key s d o) (db 0))) os
        → option_map (λ r. bytes (column r 3)) (option_map (λ (x : Output). x.1) (slice_get os 0))
        ≡ option_map bytes_of (slice_get (filter (has_key s d o) (db 0)) 0)
    go (inl none) os same = let e = no_items os (length_permutation [] os (rw none at same)) in rw (none, e) refl
    go (inr (r, is)) os same = let e = one_permutation (shows r) os (rw is at same) in rw (is, e) refl
