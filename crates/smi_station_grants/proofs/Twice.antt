-- Rows in their newest schemas stay as they are.
use Rattle.std.proofs.Common.{ℕ, ◌≡◌, ◌+◌, Bool, true, false, List, [], ◌∷◌, Option, Some, None, Result, Ok, Err, inl}
use Rattle.std.proofs.Common.{inr, refl, sym, ap, ◌∙◌, arith}
use Rattle.std.specs.Prelude.{◌==◌, ◌&&◌, not, count_by, length, slice_index, if◌then◌else◌, option_and_then}
use Rattle.std.specs.Option.{option_map_or}
use Rattle.std.proofs.lemmas.Bool.{and_parts}
use Rattle.std.proofs.lemmas.Bool.Decides.{nat_tests}
use Rattle.std.proofs.lemmas.List.Recursion.{is_count_by}
use Rattle.smi_tree.specs.Hierarchy.{Hierarchy}
use Rattle.smi_rows.specs.declared.Key.{Key}
use Rattle.smi_rows.specs.declared.Row.{Row}
use Rattle.smi_rows.specs.declared.RowFault.{RowFault}
use Rattle.smi_rows.specs.declared.RowFault.TheVariants.{Code, Memory}
use Rattle.smi_rows.specs.declared.RowKind.{RowKind}
use Rattle.smi_rows.specs.declared.Schema.{Schema}
use Rattle.smi_rows.specs.Key.{kind_of}
use Rattle.smi_rows.specs.Known.{is_known}
use Rattle.smi_rows.specs.Reading.{has_length_of, kind_row, known_row, row_of, said_at, schema_row}
use Rattle.smi_rows.specs.Schema.{newest, schema_of}
use Rattle.smi_rows.specs.Store.{IsListing, IsSame, Rows, Saved, found_in, is_before, rises, rises_after, same_key}
use Rattle.smi_rows.proofs.Keys.{same-itself}
use Rattle.smi_rows.proofs.Laws.{read_is_row}
use Rattle.smi_protocol.specs.Loading.{AllRead, fault_in, read, said}
use Rattle.smi_protocol.specs.Sound.{In}
use Rattle.smi_station_grants.specs.Migrating.{about, in_newest, in_newest_if}
use Rattle.smi_station_grants.specs.Migrating.{is_older, is_renewed, newest_bytes, schema_in}
use Rattle.smi_station_grants.proofs.Migrated.{newest_says}
use Rattle.smi_station_grants.proofs.Opening.{before_chain, rest_rises}
use Rattle.smi_station_grants.proofs.Rewritten.{key_about, schema_first}

-- reading a row is no question of memory
never_memory : (h : Hierarchy) (k : Key) (b : List ℕ) → row_of h k b ≡ Err Memory → ⊥
never_memory h k b is = by_kind (kind_of k) is
  where
    by_known : (t : Bool) (r : Row) → (if t then Ok r else Err (Code 4)) ≡ Err Memory → ⊥
    by_known true r i = cc
    by_known false r i = cc

    by_said : (o : Option Row) → known_row h k o ≡ Err Memory → ⊥
    by_said None i = cc
    by_said (Some r) i = by_known (is_known h k r) r i

    by_length : (t : Bool) (o : Option Row) → (if t then known_row h k o else Err (Code 1)) ≡ Err Memory → ⊥
    by_length true o i = by_said o i
    by_length false o i = cc

    by_schema : (o : Option Schema) → schema_row h k b o ≡ Err Memory → ⊥
    by_schema None i = cc
    by_schema (Some s) i = by_length (has_length_of s.kind s b) (said_at s b) i

    by_empty : (t : Bool) (o : Option Schema) → (if t then Err (Code 1) else schema_row h k b o) ≡ Err Memory → ⊥
    by_empty true o i = cc
    by_empty false o i = by_schema o i

    by_kind : (o : Option RowKind) → kind_row h k b o ≡ Err Memory → ⊥
    by_kind None i = cc
    by_kind (Some a) i = by_empty (length b == 0) (schema_of a (slice_index b 0)) i

-- a row that has no fault is read
read_there : (h : Hierarchy) (k : Key) (b : List ℕ) → fault_in (row_of h k b) ≡ None → (r : Row) × (row_of h k b ≡ Ok r)
read_there h k b none = by (row_of h k b) refl none
  where
    by : (x : Result Row RowFault) → row_of h k b ≡ x → fault_in x ≡ None → (r : Row) × (row_of h k b ≡ Ok r)
    by (Ok r) is i = (r, is)
    by (Err (Code n)) is i = absurd cc
    by (Err Memory) is i = absurd (never_memory h k b is)

-- what is in a list is found there
behind : (low : Key) (r : Saved) (xs : List Saved) → rises_after low xs ≡ true → In r xs → is_before low r.key ≡ true
behind low r [] rising a = absurd a
behind low r (x ∷ xs) rising (inl same) = ap (λ (z : Saved). is_before low z.key) same
    ∙ (and_parts (is_before low x.key) (rises_after x.key xs) rising).0
behind low r (x ∷ xs) rising (inr a) =
    let p = and_parts (is_before low x.key) (rises_after x.key xs) rising in
    before_chain low x.key r.key p.0 (behind x.key r xs p.1 a)

differs : (a b : Key) → is_before a b ≡ true → same_key a b ≡ false
differs a b first = grind (arith, nat_tests)

in_found : (r : Saved) (xs : List Saved) → rises xs ≡ true → In r xs → found_in xs r.key ≡ Some r.bytes
in_found r [] rising a = absurd a
in_found r (x ∷ xs) rising (inl same) =
    ap (λ (z : Saved). found_in (x ∷ xs) z.key) same
    ∙ ap (λ t. if t then Some x.bytes else found_in xs x.key) (same-itself x.key)
    ∙ ap (λ (z : Saved). Some z.bytes) (sym same)
in_found r (x ∷ xs) rising (inr a) =
    ap (λ t. if t then Some x.bytes else found_in xs r.key) (differs x.key r.key (behind x.key r xs rising a))
    ∙ in_found r xs (rest_rises x xs rising) a

module _ (h : Hierarchy) (number : ℕ) (rows : Rows) (all : AllRead h number rows) where
  -- in its newest schema a row is of no older one
  newest_now : (k : Key) (b : List ℕ) → in_newest h number rows k ≡ Some b
      → (k.station == number && is_older k b) ≡ false
  newest_now k b is = by (k.station == number) refl is (all k)
    where
      itself : (n : ℕ) → (n == n) ≡ true
      itself n = grind (arith, nat_tests)

      of_row : (c : List ℕ) (s : Row) → row_of h k c ≡ Ok s → Some (newest_bytes s) ≡ Some b → is_older k b ≡ false
      of_row c s at i =
          let same : newest_bytes s ≡ b = cc in
          ap (is_older k) (sym same)
          ∙ ap (λ o. option_map_or (λ z. not (schema_in (newest_bytes s) == newest z)) o false)
          (key_about h k c s (read_is_row h k c s at))
          ∙ ap not (ap (λ n. n == newest (about s)) (schema_first (newest (about s)) s) ∙ itself (newest (about s)))

      at_row : (o : Option (List ℕ)) → in_newest_if (option_and_then (λ c. read (row_of h k c)) o) o ≡ Some b
          → option_and_then (λ c. fault_in (row_of h k c)) o ≡ None → is_older k b ≡ false
      at_row None i none = absurd cc
      at_row (Some c) i none =
          let there = read_there h k c none in
          of_row c there.0 there.1 (sym (ap (λ x. in_newest_if (read x) (Some c)) there.1) ∙ i)

      by : (t : Bool) → (k.station == number) ≡ t
          → (if t then in_newest_if (said h rows k) (rows k) else rows k) ≡ Some b
          → (if t then option_and_then (λ c. fault_in (row_of h k c)) (rows k) else None) ≡ None
          → (t && is_older k b) ≡ false
      by true own i none = at_row (rows k) i none
      by false own i none = refl

  older : List Saved → ℕ
  older [] = 0
  older (r ∷ more) = if is_renewed number r then 1 + older more else older more

  older_is : (list : List Saved) → older list ≡ count_by (is_renewed number) list
  unfolding older
  older_is list = is_count_by older (is_renewed number) refl (λ r rs. refl) list

  none_older : (list : List Saved) → ((r : Saved) → In r list → is_renewed number r ≡ false) → older list ≡ 0
  unfolding older
  none_older [] none = refl
  none_older (r ∷ more) none = ap (λ t. if t then 1 + older more else older more) (none r (inl refl))
      ∙ none_older more (λ s a. none s (inr a))

  -- a second time there is nothing to do
  pub nothing_left : (after : Rows) (list : List Saved) → IsSame after (in_newest h number rows)
      → IsListing after list → count_by (is_renewed number) list ≡ 0
  nothing_left after list same listing =
      sym (older_is list)
      ∙ none_older list (λ r a. newest_now r.key r.bytes
      (sym (same r.key) ∙ sym (listing.same r.key) ∙ in_found r list listing.rises a))

-- the newest of the newest are the same
pub newest_twice : (h : Hierarchy) (number : ℕ) (rows : Rows) (k : Key)
    → in_newest h number (in_newest h number rows) k ≡ in_newest h number rows k
newest_twice h number rows k = by (k.station == number) refl (said h rows k) refl
  where
    by : (t : Bool) → (k.station == number) ≡ t → (o : Option Row) → said h rows k ≡ o
        → (if t then in_newest_if (said h (in_newest h number rows) k) (in_newest h number rows k)
        else in_newest h number rows k) ≡ in_newest h number rows k
    by false own o is = refl
    by true own None is = ap (λ y. in_newest_if y (in_newest h number rows k)) (newest_says h number rows k ∙ is)
    by true own (Some s) is =
        ap (λ y. in_newest_if y (in_newest h number rows k)) (newest_says h number rows k ∙ is)
        ∙ sym (ap (λ t. if t then in_newest_if (said h rows k) (rows k) else rows k) own
        ∙ ap (λ y. in_newest_if y (rows k)) is)
