-- Rows rewritten one after the other are all rows in their newest schemas.
use Rattle.std.proofs.Common.{ℕ, zero, suc, ◌≡◌, ◌≤◌, ◌<◌, ◌+◌, ◌*◌, ◌^◌, ◌⊎◌, inl, inr, Bool, true, false, List, []}
use Rattle.std.proofs.Common.{◌∷◌, length, take, Option, Some, None, Result, Ok, Err, refl, sym, ap, ◌∙◌, subst, arith}
use Rattle.std.specs.Prelude.{◌==◌, ◌&&◌, not, nat_lt, count_by, if◌then◌else◌, option_and_then, option_map}
use Rattle.std.specs.List.{AllByRecursion, cons_option}
use Rattle.std.specs.Option.{option_map_or}
use Rattle.std.proofs.lemmas.Bool.{and_from, and_parts, eqb-true}
use Rattle.std.proofs.lemmas.Bool.Decides.{nat_tests}
use Rattle.std.proofs.lemmas.List.Recursion.{is_count_by}
use Rattle.smi_base.specs.declared.trees.TheConstants.{MOST_DOMAINS, MOST_OPERATORS}
use mathlib.Core.Path.{fun_ext}
use Rattle.smi_tree.specs.Hierarchy.{Hierarchy}
use Rattle.smi_tree.specs.Lawful.{IsTree}
use Rattle.smi_tree.specs.Lookups.{operator_station_of}
use Rattle.smi_rows.specs.declared.Key.{Key}
use Rattle.smi_rows.specs.declared.Row.{Row}
use Rattle.smi_rows.specs.declared.RowKind.{RowKind}
use Rattle.smi_rows.specs.declared.Row.TheVariants as row
use Rattle.smi_rows.specs.Key.{kind_of}
use Rattle.smi_tree.specs.Roles.{is_keeper, is_number}
use Rattle.smi_rows.specs.Reading.{row_of}
use Rattle.smi_rows.specs.Schema.{newest}
use Rattle.smi_rows.specs.Store.{IsListing, IsSame, Rows, Saved, found_in, is_before, rises, rises_after, same_key}
use Rattle.smi_rows.specs.Store.{saved}
use Rattle.smi_rows.proofs.Keys.{same-is}
use Rattle.smi_rows.proofs.Laws.{read_is_row}
use Rattle.smi_protocol.specs.Loading.{read, said}
use Rattle.smi_protocol.specs.declared.fault.OpenFault.{OpenFault}
use Rattle.smi_protocol.proofs.Ranges.{kept_there, number_within}
use Rattle.smi_protocol.proofs.Tables.{number_is}
use Rattle.smi_station_grants.specs.Migrating.{IsPartly, SaysTheSame, about}
use Rattle.smi_station_grants.specs.Migrating.{all_told, in_newest, in_newest_if, is_older}
use Rattle.smi_station_grants.specs.Migrating.{is_renewed, newest_bytes, over, renewal, renewals, schema_in}
use Rattle.smi_station_grants.specs.Restoring.{and_then, said_to}
use Rattle.smi_station_grants.proofs.Opening.{before_chain, clash, first_of}
use Rattle.smi_station_grants.proofs.Opening.{not_again, not_found, over_found, rest_rises}
use Rattle.smi_station_grants.proofs.Rewritten.{key_about, newest_reads, newest_stays}
use Rattle.smi_station_grants.proofs.SoundLoading.{said_row}
use Rattle.smi_station_grants.proofs.Taking.{row_about, told_none, told_own}

-- a later list of rows rises from an earlier key
rises_from_earlier : (a b : Key) (xs : List Saved) → is_before a b ≡ true → rises_after b xs ≡ true
    → rises_after a xs ≡ true
rises_from_earlier a b [] first rising = refl
rises_from_earlier a b (r ∷ xs) first rising =
    let p = and_parts (is_before b r.key) (rises_after r.key xs) rising in
    and_from _ _ (before_chain a b r.key first p.0) p.1

take_rises_after : (low : Key) (n : ℕ) (xs : List Saved) → rises_after low xs ≡ true
    → rises_after low (take n xs) ≡ true
take_rises_after low zero xs rising = refl
take_rises_after low (suc n) [] rising = refl
take_rises_after low (suc n) (r ∷ xs) rising =
    let p = and_parts (is_before low r.key) (rises_after r.key xs) rising in
    and_from _ _ p.0 (take_rises_after r.key n xs p.1)

take_rises : (n : ℕ) (xs : List Saved) → rises xs ≡ true → rises (take n xs) ≡ true
take_rises zero xs rising = refl
take_rises (suc n) [] rising = refl
take_rises (suc n) (r ∷ xs) rising = take_rises_after r.key n xs rising

-- what is found among the first is found
take_found : (n : ℕ) (xs : List Saved) (k : Key) (b : List ℕ) → found_in (take n xs) k ≡ Some b → found_in xs k ≡ Some b
take_found zero xs k b is = absurd cc
take_found (suc n) [] k b is = absurd cc
take_found (suc n) (r ∷ xs) k b is = by (same_key r.key k) is (λ i. take_found n xs k b i)
  where
    by : (t : Bool) → (if t then Some r.bytes else found_in (take n xs) k) ≡ Some b
        → (found_in (take n xs) k ≡ Some b → found_in xs k ≡ Some b)
        → (if t then Some r.bytes else found_in xs k) ≡ Some b
    by true i rest = i
    by false i rest = rest i

-- and all before it are among the first too
take_earlier : (n : ℕ) (xs : List Saved) (j k : Key) (b : List ℕ) → rises xs ≡ true → is_before j k ≡ true
    → found_in (take n xs) k ≡ Some b → found_in (take n xs) j ≡ found_in xs j
take_earlier zero xs j k b rising first is = absurd cc
take_earlier (suc n) [] j k b rising first is = absurd cc
take_earlier (suc n) (r ∷ xs) j k b rising first is =
    by (same_key r.key j) (same_key r.key k) refl is (λ i. take_earlier n xs j k b (rest_rises r xs rising) first i)
  where
    not_before : (a b : Key) → is_before a b ≡ true → is_before b a ≡ false
    not_before a b t = grind (arith, nat_tests)

    by : (s t : Bool) → same_key r.key k ≡ t → (if t then Some r.bytes else found_in (take n xs) k) ≡ Some b
        → (found_in (take n xs) k ≡ Some b → found_in (take n xs) j ≡ found_in xs j)
        → (if s then Some r.bytes else found_in (take n xs) j) ≡ (if s then Some r.bytes else found_in xs j)
    by true t here i rest = refl
    by false true here i rest =
        let early : is_before r.key j ≡ false = ap (λ z. is_before z j) (same-is r.key k here) ∙ not_before j k first in
        not_found r.key (take n xs) j (take_rises_after r.key n xs rising) early
        ∙ sym (not_found r.key xs j rising early)
    by false false here i rest = rest i

module _ (h : Hierarchy) (number : ℕ) where
  -- a row that is told, rewritten if it is of an older schema
  abbrev renewed_of : Saved → Option Row → Option Saved
  renewed_of r None = None
  renewed_of r (Some said) = if is_older r.key r.bytes then Some (saved r.key (newest_bytes said)) else None

  pub told_renewal : (r : Saved) (o : Option Row) → said_to h number r ≡ Ok o → renewal h number r ≡ renewed_of r o
  told_renewal r None is =
      ap (λ t. if t && is_older r.key r.bytes then option_map (λ said. saved r.key (newest_bytes said))
      (read (row_of h r.key r.bytes)) else None) (told_none h number r is)
  told_renewal r (Some s) is =
      let own = told_own h number r s is in
      ap (λ t. if t && is_older r.key r.bytes then option_map (λ said. saved r.key (newest_bytes said))
      (read (row_of h r.key r.bytes)) else None) (itself r.key.station own.0)
      ∙ ap (λ t. if is_older r.key r.bytes then option_map (λ said. saved r.key (newest_bytes said)) (read t)
      else None) own.1
    where
      itself : (n : ℕ) → n ≡ number → (n == number) ≡ true
      itself n e = grind (arith, nat_tests)

  renewal_key : (r x : Saved) → renewal h number r ≡ Some x → x.key ≡ r.key
  renewal_key r x is = by (is_renewed number r) (read (row_of h r.key r.bytes)) is
    where
      by : (t : Bool) (o : Option Row) → (if t then option_map (λ said. saved r.key (newest_bytes said)) o else None)
          ≡ Some x → x.key ≡ r.key
      by true None i = absurd cc
      by true (Some s) i = let same : saved r.key (newest_bytes s) ≡ x = cc in ap (λ (y : Saved). y.key) (sym same)
      by false o i = absurd cc

  renewals_rise_after : (low : Key) (list : List Saved) → rises_after low list ≡ true
      → rises_after low (renewals h number list) ≡ true
  renewals_rise_after low [] rising = refl
  renewals_rise_after low (r ∷ more) rising =
      by (renewal h number r) refl (renewals_rise_after r.key more parts.1)
      (renewals_rise_after low more (rises_from_earlier low r.key more parts.0 parts.1))
    where
      parts : (is_before low r.key ≡ true) × (rises_after r.key more ≡ true)
      parts = and_parts (is_before low r.key) (rises_after r.key more) rising

      by : (o : Option Saved) → renewal h number r ≡ o → rises_after r.key (renewals h number more) ≡ true
          → rises_after low (renewals h number more) ≡ true
          → rises_after low (cons_option o (renewals h number more)) ≡ true
      by None is narrow wide = wide
      by (Some x) is narrow wide =
          let same : x.key ≡ r.key = renewal_key r x is in
          and_from _ _ (ap (is_before low) same ∙ parts.0)
          (ap (λ k. rises_after k (renewals h number more)) same ∙ narrow)

  pub renewals_rise : (list : List Saved) → rises list ≡ true → rises (renewals h number list) ≡ true
  renewals_rise [] rising = refl
  renewals_rise (r ∷ more) rising = by (renewal h number r) refl (renewals_rise more (rest_rises r more rising))
      (renewals_rise_after r.key more rising)
    where
      by : (o : Option Saved) → renewal h number r ≡ o → rises (renewals h number more) ≡ true
          → rises_after r.key (renewals h number more) ≡ true → rises (cons_option o (renewals h number more)) ≡ true
      by None is rest after = rest
      by (Some x) is rest after = ap (λ k. rises_after k (renewals h number more)) (renewal_key r x is) ∙ after

  abbrev anew_at : Key → List ℕ → Option (List ℕ)
  anew_at k b = option_map (λ (x : Saved). x.bytes) (renewal h number (saved k b))

  -- a row is among those that are renewed as it is among all
  found_renewed : (list : List Saved) (k : Key) → rises list ≡ true
      → found_in (renewals h number list) k ≡ option_and_then (anew_at k) (found_in list k)
  found_renewed [] k rising = refl
  found_renewed (r ∷ more) k rising = by (renewal h number r) (same_key r.key k) refl refl
      (found_renewed more k (rest_rises r more rising))
    where
      by : (o : Option Saved) (t : Bool) → renewal h number r ≡ o → same_key r.key k ≡ t
          → found_in (renewals h number more) k ≡ option_and_then (anew_at k) (found_in more k)
          → found_in (cons_option o (renewals h number more)) k
          ≡ option_and_then (anew_at k) (if t then Some r.bytes else found_in more k)
      by None true is here rest =
          rest ∙ ap (option_and_then (anew_at k)) (not_again r more k rising here)
          ∙ sym (ap (λ j. anew_at j r.bytes) (sym (same-is r.key k here)) ∙ ap (option_map (λ (x : Saved). x.bytes)) is)
      by None false is here rest = rest
      by (Some x) true is here rest =
          ap (λ s. if s then Some x.bytes else found_in (renewals h number more) k)
          (ap (λ j. same_key j k) (renewal_key r x is) ∙ here)
          ∙ sym (ap (λ j. anew_at j r.bytes) (sym (same-is r.key k here)) ∙ ap (option_map (λ (x : Saved). x.bytes)) is)
      by (Some x) false is here rest =
          ap (λ s. if s then Some x.bytes else found_in (renewals h number more) k)
          (ap (λ j. same_key j k) (renewal_key r x is) ∙ here) ∙ rest

  -- each row of a list that is told is told
  row_told : (list : List Saved) → all_told h number list ≡ Ok tt → (k : Key) (b : List ℕ) → found_in list k ≡ Some b
      → (o : Option Row) × (said_to h number (saved k b) ≡ Ok o)
  row_told [] told k b is = absurd cc
  row_told (r ∷ more) told k b is = by (said_to h number r) refl told (λ t i. row_told more t k b i)
    where
      at_key : (o : Option Row) → said_to h number r ≡ Ok o → (all_told h number more ≡ Ok tt)
          → (all_told h number more ≡ Ok tt → found_in more k ≡ Some b
          → (p : Option Row) × (said_to h number (saved k b) ≡ Ok p))
          → (t : Bool) → same_key r.key k ≡ t → (if t then Some r.bytes else found_in more k) ≡ Some b
          → (p : Option Row) × (said_to h number (saved k b) ≡ Ok p)
      at_key o said rest later true here i =
          let bytes : r.bytes ≡ b = cc in (
            o,
            ap (λ c. said_to h number (saved k c)) (sym bytes)
                ∙ ap (λ j. said_to h number (saved j r.bytes)) (sym (same-is r.key k here)) ∙ said,
          )
      at_key o said rest later false here i = later rest i

      by : (x : Result (Option Row) OpenFault) → said_to h number r ≡ x
          → and_then (λ s. all_told h number more) x ≡ Ok tt
          → (all_told h number more ≡ Ok tt → found_in more k ≡ Some b
          → (p : Option Row) × (said_to h number (saved k b) ≡ Ok p))
          → (p : Option Row) × (said_to h number (saved k b) ≡ Ok p)
      by (Ok o) said rest later = at_key o said rest later (same_key r.key k) refl is
      by (Err fault) said rest later = absurd cc

  -- the row of a key, rewritten or as before, is in its newest schema
  newest_at : (k : Key) (b : List ℕ) (o : Option Row) → said_to h number (saved k b) ≡ Ok o
      → first_of (anew_at k b) (Some b) ≡ (if k.station == number then in_newest_if (read (row_of h k b)) (Some b)
      else Some b)
  newest_at k b None is =
      ap (λ (y : Option Saved). first_of (option_map (λ (x : Saved). x.bytes) y) (Some b))
      (told_renewal (saved k b) None is)
      ∙ sym (ap (λ t. if t then in_newest_if (read (row_of h k b)) (Some b) else Some b)
      (told_none h number (saved k b) is))
  newest_at k b (Some s) is =
      let own = told_own h number (saved k b) s is in
      ap (λ (y : Option Saved). first_of (option_map (λ (x : Saved). x.bytes) y) (Some b))
      (told_renewal (saved k b) (Some s) is)
      ∙ by (is_older k b) refl own.1
      ∙ sym (ap (λ t. if t then in_newest_if (read (row_of h k b)) (Some b) else Some b) (itself k.station own.0)
      ∙ ap (λ y. in_newest_if (read y) (Some b)) own.1)
    where
      itself : (n : ℕ) → n ≡ number → (n == number) ≡ true
      itself n e = grind (arith, nat_tests)

      newer : (a : RowKind) → kind_of k ≡ Some a → is_older k b ≡ false → (schema_in b == newest a) ≡ true
      newer a at new = negated (schema_in b == newest a)
          (sym (ap (λ o. option_map_or (λ z. not (schema_in b == newest z)) o false) at) ∙ new)
        where
          negated : (t : Bool) → not t ≡ false → t ≡ true
          negated true e = refl
          negated false e = clash e

      by : (t : Bool) → is_older k b ≡ t → row_of h k b ≡ Ok s
          → first_of (option_map (λ (x : Saved). x.bytes) (if t then Some (saved k (newest_bytes s)) else None))
          (Some b) ≡ Some (newest_bytes s)
      by true old at = refl
      by false old at =
          let row = read_is_row h k b s at in
          ap (λ c. Some c) (newest_stays h k b s row (newer (about s) (key_about h k b s row) old))

  module _ (list : List Saved) (rising : rises list ≡ true) (told : all_told h number list ≡ Ok tt) where
    abbrev anew : List Saved
    anew = renewals h number list

    at_row : (k : Key) (o : Option (List ℕ)) → found_in list k ≡ o
        → first_of (option_and_then (anew_at k) o) o
        ≡ (if k.station == number then in_newest_if (option_and_then (λ b. read (row_of h k b)) o) o else o)
    at_row k None is = none (k.station == number)
      where
        none : (t : Bool) → ◌≡◌ {A = Option (List ℕ)} None (if t then None else None)
        none true = refl
        none false = refl
    at_row k (Some b) is = let there = row_told list told k b is in newest_at k b there.0 there.1

    -- all of them
    pub whole : (k : Key) → first_of (found_in anew k) (found_in list k) ≡ in_newest h number (found_in list) k
    whole k = ap (λ o. first_of o (found_in list k)) (found_renewed list k rising) ∙ at_row k (found_in list k) refl

    over_all : (k : Key) → over (found_in list) anew k ≡ in_newest h number (found_in list) k
    over_all k = over_found (found_in list) anew k (renewals_rise list rising) ∙ whole k

    -- the first of them
    first_rows : (n : ℕ) (k : Key) → over (found_in list) (take n anew) k
        ≡ first_of (found_in (take n anew) k) (found_in list k)
    first_rows n k = over_found (found_in list) (take n anew) k (take_rises n anew (renewals_rise list rising))

    found_first : (n : ℕ) (k : Key) (b : List ℕ) → found_in (take n anew) k ≡ Some b
        → first_of (found_in (take n anew) k) (found_in list k) ≡ in_newest h number (found_in list) k
    found_first n k b is = ap (λ o. first_of o (found_in list k)) (is ∙ sym (take_found n anew k b is)) ∙ whole k

    each_row : (n : ℕ) (k : Key) → (over (found_in list) (take n anew) k ≡ found_in list k)
        ⊎ (over (found_in list) (take n anew) k ≡ in_newest h number (found_in list) k)
    each_row n k = by (found_in (take n anew) k) refl
      where
        by : (o : Option (List ℕ)) → found_in (take n anew) k ≡ o
            → (over (found_in list) (take n anew) k ≡ found_in list k)
            ⊎ (over (found_in list) (take n anew) k ≡ in_newest h number (found_in list) k)
        by None is = inl (first_rows n k ∙ ap (λ o. first_of o (found_in list k)) is)
        by (Some b) is = inr (first_rows n k ∙ found_first n k b is)

    rising_row : (n : ℕ) (j k : Key) → is_before j k ≡ true
        → (over (found_in list) (take n anew) j ≡ in_newest h number (found_in list) j)
        ⊎ (over (found_in list) (take n anew) k ≡ found_in list k)
    rising_row n j k first = by (found_in (take n anew) k) refl
      where
        by : (o : Option (List ℕ)) → found_in (take n anew) k ≡ o
            → (over (found_in list) (take n anew) j ≡ in_newest h number (found_in list) j)
            ⊎ (over (found_in list) (take n anew) k ≡ found_in list k)
        by None is = inr (first_rows n k ∙ ap (λ o. first_of o (found_in list k)) is)
        by (Some b) is =
            inl (first_rows n j ∙ ap (λ o. first_of o (found_in list j))
            (take_earlier n anew j k b (renewals_rise list rising) first is) ∙ whole j)

  -- How many there are.

  older_rows : List Saved → ℕ
  older_rows [] = 0
  older_rows (r ∷ more) = if is_renewed number r then 1 + older_rows more else older_rows more

  older_rows_is : (list : List Saved) → older_rows list ≡ count_by (is_renewed number) list
  unfolding older_rows
  older_rows_is list = is_count_by older_rows (is_renewed number) refl (λ r rs. refl) list

  told_count : (r : Saved) (o : Option Row) (xs : List Saved) → said_to h number r ≡ Ok o
      → length (cons_option (renewal h number r) xs) ≡ (if is_renewed number r then 1 + length xs else length xs)
  told_count r None xs is =
      ap (λ y. length (cons_option y xs)) (told_renewal r None is)
      ∙ sym (ap (λ (t : Bool). if t && is_older r.key r.bytes then 1 + length xs else length xs)
      (told_none h number r is))
  told_count r (Some s) xs is =
      let own = told_own h number r s is in
      ap (λ y. length (cons_option y xs)) (told_renewal r (Some s) is)
      ∙ by (is_older r.key r.bytes)
      ∙ sym (ap (λ (t : Bool). if t && is_older r.key r.bytes then 1 + length xs else length xs)
      (itself r.key.station own.0))
    where
      itself : (n : ℕ) → n ≡ number → (n == number) ≡ true
      itself n e = grind (arith, nat_tests)

      by : (t : Bool) → length (cons_option (if t then Some (saved r.key (newest_bytes s)) else None) xs)
          ≡ (if t then 1 + length xs else length xs)
      by true = omega arith
      by false = refl

  older_counted : (list : List Saved) → all_told h number list ≡ Ok tt
      → length (renewals h number list) ≡ older_rows list
  unfolding older_rows
  older_counted [] told = refl
  older_counted (r ∷ more) told = by (said_to h number r) refl told (λ t. older_counted more t)
    where
      by : (x : Result (Option Row) OpenFault) → said_to h number r ≡ x
          → and_then (λ s. all_told h number more) x ≡ Ok tt
          → (all_told h number more ≡ Ok tt → length (renewals h number more) ≡ older_rows more)
          → length (cons_option (renewal h number r) (renewals h number more))
          ≡ (if is_renewed number r then 1 + older_rows more else older_rows more)
      by (Ok o) said rest later = told_count r o (renewals h number more) said
          ∙ ap (λ n. if is_renewed number r then 1 + n else n) (later rest)
      by (Err fault) said rest later = absurd cc

  pub counted : (list : List Saved) → all_told h number list ≡ Ok tt
      → length (renewals h number list) ≡ count_by (is_renewed number) list
  counted list told = older_counted list told ∙ older_rows_is list

  -- a key of one of the station's rows
  record IsOwnKey (k : Key) : Type 0 where
    pub station : k.station ≡ number
    pub domain : k.domain ≤ MOST_DOMAINS
    pub operator : k.operator ≤ MOST_OPERATORS

  own_key : IsTree h → (k : Key) (b : List ℕ) (s : Row) → k.station ≡ number → row_of h k b ≡ Ok s → IsOwnKey k
  own_key tree k b (row.Boot boot) own is =
      let a = row_about h k b (row.Boot boot) is in
      let d : k.domain ≡ 0 = eqb-true k.domain 0 a.1 in
      let o : k.operator ≡ 0 = eqb-true k.operator 0 a.0 in
      record { station = own; domain = omega (arith, d); operator = omega (arith, o) }
  own_key tree k b (row.Domain d) own is =
      let a = row_about h k b (row.Domain d) is in
      let known = and_parts (is_keeper h k.station k.domain) _ (read_is_row h k b (row.Domain d) is).1 in
      let there = (kept_there h tree k.station k.domain known.0).0 in
      let o : k.operator ≡ 0 = eqb-true k.operator 0 a.0 in
      record {
        station = own;
        domain = omega (arith, there.most, tree.lawful.domains.most);
        operator = omega (arith, o);
      }
  own_key tree k b (row.Operator links) own is =
      let a = row_about h k b (row.Operator links) is in
      let known =
      and_parts (is_number (operator_station_of h k.operator) k.station) _
      (read_is_row h k b (row.Operator links) is).1 in
      let d : k.domain ≡ 0 = eqb-true k.domain 0 a.1 in
      let within = number_within h.homes k.operator k.station
      (number_is (operator_station_of h k.operator) k.station known.0) in
      record {
        station = own;
        domain = omega (arith, d);
        operator = omega (arith, within.most, tree.lawful.operators.rows, tree.lawful.operators.most);
      }

  own_keys : IsTree h → (list : List Saved) → all_told h number list ≡ Ok tt
      → AllByRecursion (λ (x : Saved). IsOwnKey x.key) (renewals h number list)
  own_keys tree [] told = tt
  own_keys tree (r ∷ more) told = by (said_to h number r) refl told (λ t. own_keys tree more t)
    where
      one : (o : Option Row) → said_to h number r ≡ Ok o
          → AllByRecursion (λ (x : Saved). IsOwnKey x.key) (renewals h number more)
          → AllByRecursion (λ (x : Saved). IsOwnKey x.key) (cons_option (renewal h number r) (renewals h number more))
      one None is rest =
          subst (λ y. AllByRecursion (λ (x : Saved). IsOwnKey x.key) (cons_option y (renewals h number more)))
          (sym (told_renewal r None is)) rest
      one (Some s) is rest =
          let own = told_own h number r s is in
          subst (λ y. AllByRecursion (λ (x : Saved). IsOwnKey x.key) (cons_option y (renewals h number more)))
          (sym (told_renewal r (Some s) is)) (either (is_older r.key r.bytes)
          (own_key tree r.key r.bytes s own.0 own.1) rest)
        where
          either : (t : Bool) → IsOwnKey r.key → AllByRecursion (λ (x : Saved). IsOwnKey x.key) (renewals h number more)
              → AllByRecursion (λ (x : Saved). IsOwnKey x.key)
              (cons_option (if t then Some (saved r.key (newest_bytes s)) else None) (renewals h number more))
          either true own rest = (own, rest)
          either false own rest = rest

      by : (x : Result (Option Row) OpenFault) → said_to h number r ≡ x
          → and_then (λ s. all_told h number more) x ≡ Ok tt
          → (all_told h number more ≡ Ok tt → AllByRecursion (λ (x : Saved). IsOwnKey x.key) (renewals h number more))
          → AllByRecursion (λ (x : Saved). IsOwnKey x.key) (cons_option (renewal h number r) (renewals h number more))
      by (Ok o) said rest later = one o said (later rest)
      by (Err fault) said rest later = absurd cc

  -- such keys have rising ranks
  rank : Key → ℕ
  rank k = k.domain * 64 + k.operator

  ranks_rise : (a b : Key) → IsOwnKey a → IsOwnKey b → is_before a b ≡ true → rank a + 1 ≤ rank b
  unfolding rank
  ranks_rise a b mine own first = by (a.station == b.station) (a.domain == b.domain) refl refl first
    where
      same : (a.station == b.station) ≡ true
      same = let s = mine.station in let t = own.station in grind (arith, nat_tests, s, t)

      by : (s d : Bool) → (a.station == b.station) ≡ s → (a.domain == b.domain) ≡ d
          → (if s then (if d then nat_lt a.operator b.operator else nat_lt a.domain b.domain)
          else nat_lt a.station b.station) ≡ true → rank a + 1 ≤ rank b
      by true true s d less =
          let e : a.domain ≡ b.domain = eqb-true a.domain b.domain d in
          let l : a.operator < b.operator = grind (arith, nat_tests) in
          omega (arith, e, l)
      by true false s d less =
          let l : a.domain < b.domain = grind (arith, nat_tests) in
          omega (arith, l, mine.operator)
      by false d s e less = clash (sym same ∙ s)

  few_after : (low : Key) (xs : List Saved) → IsOwnKey low → AllByRecursion (λ (x : Saved). IsOwnKey x.key) xs
      → rises_after low xs ≡ true → length xs + rank low ≤ 8224
  unfolding rank
  few_after low [] own all rising = omega (arith, own.domain, own.operator)
  few_after low (r ∷ xs) own all rising =
      let p = and_parts (is_before low r.key) (rises_after r.key xs) rising in
      let rest = few_after r.key xs all.0 all.1 p.1 in
      let less = ranks_rise low r.key own all.0 p.0 in
      omega (arith, rest, less)

  pub few_renewals : IsTree h → (list : List Saved) → rises list ≡ true → all_told h number list ≡ Ok tt
      → length (renewals h number list) < 2 ^ 32
  few_renewals tree list rising told = by (renewals h number list) (own_keys tree list told) (renewals_rise list rising)
    where
      by : (xs : List Saved) → AllByRecursion (λ (x : Saved). IsOwnKey x.key) xs → rises xs ≡ true → length xs < 2 ^ 32
      by [] all rise = omega arith
      by (r ∷ xs) all rise = let few = few_after r.key xs all.0 all.1 rise in omega (arith, few)

  -- What they say.

  pub newest_says : (rows : Rows) (k : Key) → said h (in_newest h number rows) k ≡ said h rows k
  newest_says rows k = by (k.station == number) (said h rows k) refl
    where
      by : (t : Bool) (o : Option Row) → said h rows k ≡ o
          → option_and_then (λ b. read (row_of h k b)) (if t then in_newest_if (said h rows k) (rows k) else rows k)
          ≡ said h rows k
      by false o is = refl
      by true None is = ap (λ y. option_and_then (λ b. read (row_of h k b)) (in_newest_if y (rows k))) is
      by true (Some s) is =
          let there = said_row h rows k s is in
          ap (λ y. option_and_then (λ b. read (row_of h k b)) (in_newest_if y (rows k))) is
          ∙ ap read (newest_reads h k there.0 s there.1) ∙ sym is

  says_same : (before after : Rows) → ((k : Key) → (after k ≡ before k) ⊎ (after k ≡ in_newest h number before k))
      → SaysTheSame h before after
  says_same before after each k = elim (each k) [
    | inl a ↦ ap (option_and_then (λ b. read (row_of h k b))) a
    | inr b ↦ ap (option_and_then (λ c. read (row_of h k c))) b ∙ newest_says before k
  ]

  module _ (list : List Saved) (told : all_told h number list ≡ Ok tt) (rows : Rows) (listing : IsListing rows list)
    where
      same_rows : found_in list ≡ rows
      same_rows = fun_ext listing.same

      abbrev anew_rows : List Saved
      anew_rows = renewals h number list

      -- some are saved
      pub partly : (n : ℕ) (after : Rows) → IsSame after (over rows (take n anew_rows)) → IsPartly h number rows after
      partly n after is = record { each = each; rising = rising; same = says_same rows after each }
        where
          here : (k : Key) → after k ≡ over (found_in list) (take n anew_rows) k
          here k = is k ∙ ap (λ (r : Rows). over r (take n anew_rows) k) (sym same_rows)

          each : (k : Key) → (after k ≡ rows k) ⊎ (after k ≡ in_newest h number rows k)
          each k = elim (each_row list listing.rises told n k) [
            | inl a ↦ inl (here k ∙ a ∙ listing.same k)
            | inr b ↦ inr (here k ∙ b ∙ ap (λ (r : Rows). in_newest h number r k) same_rows)
          ]

          rising : (j k : Key) → is_before j k ≡ true → (after j ≡ in_newest h number rows j) ⊎ (after k ≡ rows k)
          rising j k first = elim (rising_row list listing.rises told n j k first) [
            | inl a ↦ inl (here j ∙ a ∙ ap (λ (r : Rows). in_newest h number r j) same_rows)
            | inr b ↦ inr (here k ∙ b ∙ listing.same k)
          ]

      -- all are saved
      pub wholly : (after : Rows) → IsSame after (over rows anew_rows) → IsSame after (in_newest h number rows)
      wholly after is k =
          is k ∙ ap (λ (r : Rows). over r anew_rows k) (sym same_rows) ∙ over_all list listing.rises told k
          ∙ ap (λ (r : Rows). in_newest h number r k) same_rows
