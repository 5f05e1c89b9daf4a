-- A save leaves each key's bytes but those of its own.
use Rattle.std.proofs.Common.{◌≡◌, inl, inr, ℕ, ℤ, pos, List, [], ◌∷◌, filter, find, Bool, true, false, cond, drop}
use Rattle.std.proofs.Common.{not, Some, None, option_map, Ordering, Less, Equal, Greater, refl, sym, ap}
use Rattle.std.proofs.Common.{subst, ◌∙◌, true≢false}
use Rattle.std.specs.Ordering.{is_eq, match_ordering}
use Rattle.std.proofs.lemmas.Bool.{and_parts, or_parts}
use Rattle.std.proofs.lemmas.Cmp.{tied_itself}
use Rattle.sqlite_value.proofs.OrderLemmas.{value_cmp_total}
use Rattle.sqlite_rules.proofs.PlaceLemmas.{tied_same}
use Rattle.sqlite.specs.declared.types.Value.{Value}
use Rattle.sqlite.specs.declared.types.Value.TheVariants.{Null, Int, Real, Text, Blob}
use Rattle.sqlite.specs.Kind.TheVariants.{Integer}
use Rattle.sqlite.specs.Cast.{cast}
use Rattle.sqlite.specs.Order.{Row, column, value_cmp}
use Rattle.sqlite_value.specs.Keys.{plain}
use Rattle.sqlite_schema.specs.Rules.{are_typed, is_of, Keeps}
use Rattle.sqlite_schema.specs.declared.schema.Constraint.TheVariants.{Datatype, Unique}
use Rattle.sqlite_rules.specs.Lists.{Has}
use Rattle.sqlite_rules.proofs.ListLemmas.{all_has}
use Rattle.sqlite_rules.proofs.TableLemmas.{int_is}
use Rattle.sqlite_rules.proofs.KeyLemmas.{agree_chain, agree_back}
use Rattle.sqlite_trees.proofs.TreeLemmas.{not_true, IsShaped-filter, IsShaped-put_row}
use Rattle.sqlite_trees.specs.declared.store.Shape.TheVariants.{Table}
use Rattle.sqlite_trees.specs.View.{is_int}
use Rattle.sqlite.specs.Edit.{is_taken, id_in}
use Rattle.sqlite.specs.Tree.{Trees, put_row, rowid, has_rowid, without_rowid}
use Rattle.smi_stable.specs.SqlTable.{stable_columns, stable_schema}
use Rattle.smi_stable.specs.SqlRows.{has_key, at_key, bytes_of, IsKeyed}
use Rattle.smi_stable.proofs.SqlSaves.{Saves, Adds, Changes, changed, row_of, cast_int, cast_null}
use Rattle.smi_stable.proofs.SqlUnique.{only}

module _ (p : Row → Bool) where
  find_put : (new : Row) (rows : List Row) → p new ≡ false → is_taken rows new ≡ false
      → find p (put_row new rows) ≡ find p rows
  find_put new [] other free = rw other refl
  find_put new (r ∷ rows) other free = go (value_cmp (rowid r) (rowid new)) (or_parts _ _ free).0
      (find_put new rows other (or_parts _ _ free).1)
    where
      go : (o : Ordering) → is_eq o ≡ false → find p (put_row new rows) ≡ find p rows
          → find p (match_ordering o (r ∷ put_row new rows) (new ∷ rows) (new ∷ r ∷ rows)) ≡ find p (r ∷ rows)
      go Less apart later = rw later refl
      go Equal apart later = absurd (true≢false apart)
      go Greater apart later = rw other refl

  find_put_new : (new : Row) (rows : List Row) → p new ≡ true → find p rows ≡ None → is_taken rows new ≡ false
      → find p (put_row new rows) ≡ Some new
  find_put_new new [] here none free = rw here refl
  find_put_new new (r ∷ rows) here none free =
      go (value_cmp (rowid r) (rowid new)) (p r) refl (or_parts _ _ free).0
      (λ n. find_put_new new rows here n (or_parts _ _ free).1)
    where
      go : (o : Ordering) (b : Bool) → p r ≡ b → is_eq o ≡ false
          → (find p rows ≡ None → find p (put_row new rows) ≡ Some new)
          → find p (match_ordering o (r ∷ put_row new rows) (new ∷ rows) (new ∷ r ∷ rows)) ≡ Some new
      go Less true is apart later = absurd (let e : Some r ≡ None = rw is at none in cc)
      go Less false is apart later = rw is (later (rw is at none))
      go Equal b is apart later = absurd (true≢false apart)
      go Greater b is apart later = rw here refl

  find_filter : (q : Row → Bool) (rows : List Row) → ((r : Row) → Has rows r → p r ≡ true → q r ≡ true)
      → find p (filter q rows) ≡ find p rows
  find_filter q [] keeps = refl
  find_filter q (r ∷ rows) keeps = go (p r) (q r) refl refl (find_filter q rows (λ x h. keeps x (inr h)))
    where
      go : (b c : Bool) → p r ≡ b → q r ≡ c → find p (filter q rows) ≡ find p rows
          → find p (cond c (r ∷ filter q rows) (filter q rows)) ≡ cond b (Some r) (find p rows)
      go true true is kept later = rw is refl
      go true false is kept later = absurd (true≢false (sym (keeps r (inl refl) is) ∙ kept))
      go false true is kept later = rw is later
      go false false is kept later = later

  find_gone : (q : Row → Bool) (rows : List Row) → ((r : Row) → Has rows r → p r ≡ true → q r ≡ false)
      → find p (filter q rows) ≡ None
  find_gone q [] goes = refl
  find_gone q (r ∷ rows) goes = go (p r) (q r) refl refl (find_gone q rows (λ x h. goes x (inr h)))
    where
      go : (b c : Bool) → p r ≡ b → q r ≡ c → find p (filter q rows) ≡ None
          → find p (cond c (r ∷ filter q rows) (filter q rows)) ≡ None
      go true true is kept later = absurd (true≢false (sym kept ∙ goes r (inl refl) is))
      go true false is kept later = later
      go false true is kept later = rw is later
      go false false is kept later = later

  find_none : (rows : List Row) → ((r : Row) → Has rows r → p r ≡ true → ⊥) → find p rows ≡ None
  find_none [] none = refl
  find_none (r ∷ rows) none =
      rw (not_true (p r) (none r (inl refl))) (find_none rows (λ x h. none x (inr h)))

  -- a row is put among others in the place of those that pass with it
  placed : (rows left : List Row) (new : Row) → is_taken left new ≡ false → (p new ≡ true → find p left ≡ None)
      → (p new ≡ false → find p left ≡ find p rows)
      → option_map bytes_of (find p (put_row new left))
      ≡ cond (p new) (Some (bytes_of new)) (option_map bytes_of (find p rows))
  placed rows left new free gone stays = go (p new) refl
    where
      go : (b : Bool) → p new ≡ b → option_map bytes_of (find p (put_row new left))
          ≡ cond b (Some (bytes_of new)) (option_map bytes_of (find p rows))
      go true is = ap (option_map bytes_of) (find_put_new new left is (gone is) free)
      go false is = ap (option_map bytes_of) (find_put new left is free ∙ stays is)

its_rowid : (r : Row) → is_int (rowid r) ≡ true → has_rowid (id_in (rowid r)) r ≡ true
its_rowid r h = rw (int_is (rowid r) h) (ap is_eq (tied_itself value_cmp_total (Int (id_in (rowid r)))))

tie_of : (o : Ordering) → is_eq o ≡ true → o ≡ Equal
tie_of Less h = absurd (true≢false (sym h))
tie_of Equal h = refl
tie_of Greater h = absurd (true≢false (sym h))

same_truth : (p q : Bool) → (p ≡ true → q ≡ true) → (q ≡ true → p ≡ true) → p ≡ q
same_truth true q there back = sym (there refl)
same_truth false true there back = back refl
same_truth false false there back = refl

-- ---- the columns of the key, which the table keeps as they are

kept_value : (v : Value) → is_of Integer v ≡ true → cast Integer v ≡ v
kept_value Null h = cast_null
kept_value (Int n) h = cast_int n
kept_value (Real x) h = absurd (true≢false (sym h))
kept_value (Text t) h = absurd (true≢false (sym h))
kept_value (Blob b) h = absurd (true≢false (sym h))

abbrev AreIntegers : Row → Type 0
AreIntegers r =
    (is_of Integer (column r 1) ≡ true) × (is_of Integer (column r 2) ≡ true) × (is_of Integer (column r 3) ≡ true)

typed_key : (r : Row) → are_typed None 0 stable_columns (drop 1 r) ≡ true → AreIntegers r
typed_key [] h = (refl, refl, refl)
typed_key (i ∷ []) h = (refl, refl, refl)
typed_key (i ∷ x ∷ []) h = ((and_parts _ _ h).0, refl, refl)
typed_key (i ∷ x ∷ y ∷ []) h = let p = and_parts _ _ h in (p.0, (and_parts _ _ p.1).0, refl)
typed_key (i ∷ x ∷ y ∷ z ∷ more) h =
    let p = and_parts _ _ h in
    let q = and_parts _ _ p.1 in
    (p.0, q.0, (and_parts _ _ q.1).0)

-- with other bytes, a row has the key that it had
same_key : (r : Row) (b : List ℕ) (s d o : ℤ) → AreIntegers r → has_key s d o (changed r b) ≡ has_key s d o r
same_key r b s d o h =
    let first = kept_value (column r 1) h.0 in
    let second = kept_value (column r 2) h.1 in
    let third = kept_value (column r 3) h.2 in
    ap (λ (x : Row). has_key s d o x) (ap (λ v. cast Integer (rowid r) ∷ v ∷ cast Integer (column r 2)
    ∷ cast Integer (column r 3) ∷ Blob b ∷ []) first)
    ∙ rw (second, third) refl

-- rows that have one key have the same keys
shared_key : (r : Row) (s d o s' d' o' : ℤ) (b : List ℕ) → has_key s d o r ≡ true
    → has_key s' d' o' r ≡ has_key s' d' o' (row_of (pos 0) s d o b)
shared_key r s d o s' d' o' b key =
    let places = 1 ∷ 2 ∷ 3 ∷ [] in
    let own = row_of (pos 0) s d o b in
    let other : Row = Null ∷ Int s' ∷ Int d' ∷ Int o' ∷ [] in
    same_truth (has_key s' d' o' r) (has_key s' d' o' own)
    (agree_chain plain places places places own r other (agree_back plain places places r own key))
    (agree_chain plain places places places r own other key)

-- ---- what a save leaves

module _ (db : Trees) (keyed : IsKeyed (db 0)) (s d o : ℤ) (b : List ℕ) where
  is_number : (r : Row) → Has (db 0) r → is_int (rowid r) ≡ true
  is_number r at = all_has _ (db 0) r keyed.1 at

  pub still_keyed : (after : List Row) → Saves (db 0) after s d o b → IsKeyed after
  still_keyed after (inl h) = subst IsKeyed (sym h.is) (IsShaped-put_row _ _ refl keyed)
  still_keyed after (inr h) =
      let i = int_is (rowid h.row) (is_number h.row h.there) in
      let id = sym (ap (cast Integer) i ∙ cast_int (id_in (rowid h.row))) in
      subst IsKeyed (sym h.is) (IsShaped-put_row _ _ (subst (λ v. is_int v ≡ true) id refl)
      (IsShaped-filter Table (λ r. not (has_rowid (id_in (rowid h.row)) r)) (db 0) keyed))

  -- the row with the same rowid is that row
  same_row : (r x : Row) → Has (db 0) r → Has (db 0) x → has_rowid (id_in (rowid r)) x ≡ true → x ≡ r
  same_row r x at there has =
      let own = sym (int_is (rowid r) (is_number r at)) in
      tied_same (db 0) x r keyed.0 there at
      (tie_of _ (subst (λ v. is_eq (value_cmp (rowid x) v) ≡ true) own has))

  after_adding : (after : List Row) → Adds (db 0) after s d o b → (s' d' o' : ℤ) → at_key s' d' o' after
      ≡ cond (has_key s' d' o' (row_of (pos 0) s d o b)) (Some b) (at_key s' d' o' (db 0))
  after_adding after h s' d' o' =
      let places = 1 ∷ 2 ∷ 3 ∷ [] in
      let own = row_of (pos 0) s d o b in
      let other : Row = Null ∷ Int s' ∷ Int d' ∷ Int o' ∷ [] in
      ap (at_key s' d' o') h.is ∙ placed (has_key s' d' o') (db 0) (db 0) _ h.fresh
      (λ is. find_none (has_key s' d' o') (db 0) (λ r at here. h.new_key r at
      (agree_chain plain places places places r other own here (agree_back plain places places own other is))))
      (λ _. refl)

  after_changing : (after : List Row) → Keeps Datatype stable_schema db → Keeps Unique stable_schema db
      → Changes (db 0) after s d o b → (s' d' o' : ℤ) → at_key s' d' o' after
      ≡ cond (has_key s' d' o' (row_of (pos 0) s d o b)) (Some b) (at_key s' d' o' (db 0))
  after_changing after typed unique h s' d' o' =
      let p = has_key s' d' o' in
      let columns = typed_key h.row (and_parts _ _ (all_has _ (db 0) h.row typed.0 h.there)).0 in
      let same : p (changed h.row b) ≡ p h.row = same_key h.row b s' d' o' columns in
      let shared : p (changed h.row b) ≡ p (row_of (pos 0) s d o b) = same ∙ shared_key h.row s d o s' d' o' b h.key in
      let left = without_rowid (id_in (rowid h.row)) (db 0) in
      let gone : p (changed h.row b) ≡ true → find p left ≡ None = λ is. find_gone p _ (db 0) (λ r at here.
      let e = only db keyed unique s' d' o' r h.row at h.there here (sym same ∙ is) in
      ap not (subst (λ x. has_rowid (id_in (rowid h.row)) x ≡ true) (sym e)
      (its_rowid h.row (is_number h.row h.there)))) in
      let stays : p (changed h.row b) ≡ false → find p left ≡ find p (db 0) = λ is. find_filter p _ (db 0)
      (λ r at here. ap not (not_true _ (λ has.
      let e = same_row h.row r h.there at has in
      true≢false (sym here ∙ ap p e ∙ sym same ∙ is)))) in
      ap (at_key s' d' o') h.is ∙ placed p (db 0) left _ h.fresh gone stays
      ∙ ap (λ t. cond t (Some b) (at_key s' d' o' (db 0))) shared

  pub replaced : (after : List Row) → Keeps Datatype stable_schema db → Keeps Unique stable_schema db
      → Saves (db 0) after s d o b → (s' d' o' : ℤ) → at_key s' d' o' after
      ≡ cond (has_key s' d' o' (row_of (pos 0) s d o b)) (Some b) (at_key s' d' o' (db 0))
  replaced after typed unique (inl h) = after_adding after h
  replaced after typed unique (inr h) = after_changing after typed unique h
