-- A station that takes its rows one after the other opens on what they mean.
use Rattle.std.proofs.Common.{ℕ, ◌≡◌, ◌≢◌, ◌≤◌, ◌+◌, ◌⊎◌, inl, inr, Bool, true, false, List, [], ◌∷◌, Option, Some}
use Rattle.std.proofs.Common.{None, Result, Ok, Err, refl, sym, ap, ◌∙◌, subst, arith}
use Rattle.std.specs.Prelude.{◌==◌, nat_le, if◌then◌else◌, option_and_then}
use Rattle.std.proofs.lemmas.Bool.{and_parts, leb-true}
use Rattle.std.proofs.lemmas.Bool.Decides.{nat_tests}
use mathlib.Core.Path.{fun_ext}
use Rattle.smi_message.specs.Message.{is_boot, last_boot}
use Rattle.smi_tree.specs.Hierarchy.{Hierarchy}
use Rattle.smi_rows.specs.declared.Key.{Key}
use Rattle.smi_rows.specs.declared.Row.{Row}
use Rattle.smi_rows.specs.declared.Row.TheVariants as row
use Rattle.smi_rows.specs.declared.RowFault.{RowFault}
use Rattle.smi_rows.specs.declared.RowFault.TheVariants.{Code, Memory}
use Rattle.smi_rows.specs.declared.RowKind.{RowKind}
use Rattle.smi_rows.specs.declared.RowKind.TheVariants as kind
use Rattle.smi_rows.specs.Ranges.{is_row_of}
use Rattle.smi_rows.specs.Reading.{row_of}
use Rattle.smi_rows.specs.Store.{IsListing, Rows, Saved, found_in, is_before, rises, rises_after, same_key, with_row}
use Rattle.smi_rows.specs.Written.{IsRow, IsWrittenIn}
use Rattle.smi_rows.proofs.Keys.{before-other, same-is, same-itself}
use Rattle.smi_protocol.specs.Grants.{Grants, no_grants}
use Rattle.smi_protocol.specs.Loading.{AllRead, IsFirstFault, IsStation, Opens, boot_of, fault_in, fault_of}
use Rattle.smi_protocol.specs.Loading.{grants_in, said}
use Rattle.smi_protocol.specs.Opening.{first_display}
use Rattle.smi_protocol.specs.SavedRows.{key}
use Rattle.smi_protocol.specs.Sound.{IsSound}
use Rattle.smi_protocol.specs.declared.fault.OpenFault.{OpenFault}
use Rattle.smi_protocol.specs.declared.fault.OpenFault.TheVariants as open_fault
use Rattle.smi_station_grants.specs.GrantTable.{Kept, grants_of}
use Rattle.smi_station_grants.specs.Migrating.{over}
use Rattle.smi_station_grants.specs.Restoring.{Comes, and_then, as_told, own_row, raised, restored, said_to, started}
use Rattle.smi_station_grants.specs.Starting.{IsNotOfStore, beginning_with, grants_after}
use Rattle.smi_station_grants.proofs.SoundLoading.{grants_sound, said_row}
use Rattle.smi_station_grants.proofs.Taking.{no_rows, none_mean, restored_means}

pub clash : {X : Type 0} → true ≡ false → X
clash e = absurd cc

-- Keys that rise.

pub before_chain : (a b c : Key) → is_before a b ≡ true → is_before b c ≡ true → is_before a c ≡ true
before_chain a b c first second = grind (arith, nat_tests)

pub not_behind : (a b : Key) → is_before b a ≡ true → is_before a b ≡ false
not_behind a b first = grind (arith, nat_tests)

pub not_itself : (a : Key) → is_before a a ≡ false
not_itself a = grind (arith, nat_tests)

-- what is not after a key is not in a list that rises from it
pub not_found : (low : Key) (list : List Saved) (k : Key) → rises_after low list ≡ true → is_before low k ≡ false
    → found_in list k ≡ None
not_found low [] k rising early = refl
not_found low (r ∷ more) k rising early = by (same_key r.key k) (is_before r.key k) refl refl
    (λ j. not_found r.key more k parts.1 j)
  where
    parts : (is_before low r.key ≡ true) × (rises_after r.key more ≡ true)
    parts = and_parts (is_before low r.key) _ rising

    by : (t b : Bool) → same_key r.key k ≡ t → is_before r.key k ≡ b
        → (is_before r.key k ≡ false → found_in more k ≡ None) → (if t then Some r.bytes else found_in more k) ≡ None
    by true b same i rest = clash (sym parts.0 ∙ ap (is_before low) (same-is r.key k same) ∙ early)
    by false true same i rest = clash (sym (before_chain low r.key k parts.0 i) ∙ early)
    by false false same i rest = rest i

-- nor what is at the key itself
pub not_again : (r : Saved) (more : List Saved) (k : Key) → rises_after r.key more ≡ true → same_key r.key k ≡ true
    → found_in more k ≡ None
not_again r more k rising same = not_found r.key more k rising
    (ap (is_before r.key) (sym (same-is r.key k same)) ∙ not_itself r.key)

pub rest_rises : (r : Saved) (more : List Saved) → rises (r ∷ more) ≡ true → rises more ≡ true
rest_rises r [] rising = refl
rest_rises r (s ∷ more) rising = (and_parts (is_before r.key s.key) _ rising).1

abbrev pub first_of : Option (List ℕ) → Option (List ℕ) → Option (List ℕ)
first_of None other = other
first_of (Some b) other = Some b

pub over_found : (rows : Rows) (list : List Saved) (k : Key) → rises list ≡ true
    → over rows list k ≡ first_of (found_in list k) (rows k)
over_found rows [] k rising = refl
over_found rows (r ∷ more) k rising = over_found (with_row r.key r.bytes rows) more k (rest_rises r more rising)
    ∙ by (same_key r.key k) refl
  where
    by : (t : Bool) → same_key r.key k ≡ t → first_of (found_in more k) (if t then Some r.bytes else rows k)
        ≡ first_of (if t then Some r.bytes else found_in more k) (rows k)
    by true same = ap (λ o. first_of o (Some r.bytes)) (not_again r more k rising same)
    by false other = refl

pub all_found : (list : List Saved) → rises list ≡ true → over no_rows list ≡ found_in list
all_found list rising = fun_ext (λ k. over_found no_rows list k rising ∙ whole (found_in list k))
  where
    whole : (o : Option (List ℕ)) → first_of o None ≡ o
    whole None = refl
    whole (Some b) = refl

-- Faults.

module _ (h : Hierarchy) (number : ℕ) where
  -- the fault of a row, if it has one
  abbrev fault_at : Key → List ℕ → Option ℕ
  fault_at k b = if k.station == number then fault_in (row_of h k b) else None

  -- one that the station is told has none
  no_fault : (r : Saved) (o : Option Row) → said_to h number r ≡ Ok o → fault_at r.key r.bytes ≡ None
  no_fault r o is = by (r.key.station == number) is
    where
      read_to : (x : Result Row RowFault) → own_row r.key x ≡ Ok o → fault_in x ≡ None
      read_to (Ok y) i = refl
      read_to (Err (Code n)) i = absurd cc
      read_to (Err Memory) i = absurd cc

      by : (t : Bool) → (if t then own_row r.key (row_of h r.key r.bytes) else Ok None) ≡ Ok o
          → (if t then fault_in (row_of h r.key r.bytes) else None) ≡ None
      by true i = read_to (row_of h r.key r.bytes) i
      by false i = refl

  fault_found : (r : Saved) (more : List Saved) (k : Key) (t : Bool) → same_key r.key k ≡ t
      → fault_of h number (found_in (r ∷ more)) k
      ≡ (if t then fault_at r.key r.bytes else fault_of h number (found_in more) k)
  fault_found r more k t is = by t is ∙ refl
    where
      at_key : (s : Bool) → (if s then fault_in (row_of h k r.bytes) else None)
          ≡ (if s then option_and_then (λ b. fault_in (row_of h k b)) (Some r.bytes) else None)
      at_key s = refl

      by : (t : Bool) → same_key r.key k ≡ t
          → (if k.station == number then option_and_then (λ b. fault_in (row_of h k b))
          (if same_key r.key k then Some r.bytes else found_in more k) else None)
          ≡ (if t then fault_at r.key r.bytes else fault_of h number (found_in more) k)
      by true same =
          ap (λ s. if k.station == number then option_and_then (λ b. fault_in (row_of h k b))
          (if s then Some r.bytes else found_in more k) else None) same
          ∙ ap (λ j. fault_at j r.bytes) (sym (same-is r.key k same))
      by false other =
          ap (λ s. if k.station == number then option_and_then (λ b. fault_in (row_of h k b))
          (if s then Some r.bytes else found_in more k) else None) other

  nothing_there : (list : List Saved) (k : Key) → found_in list k ≡ None → fault_of h number (found_in list) k ≡ None
  nothing_there list k none =
      ap (λ o. if k.station == number then option_and_then (λ b. fault_in (row_of h k b)) o else None) none
      ∙ either (k.station == number)
    where
      either : (s : Bool) → ◌≡◌ {A = Option ℕ} (if s then None else None) None
      either true = refl
      either false = refl

  -- all are read where the grants are restored
  pub all_read : (list : List Saved) (g k : Grants) → restored h number g list ≡ Ok k → AllRead h number (found_in list)
  all_read [] g k is = λ j. nothing_there [] j refl
  all_read (r ∷ more) g k is = by (said_to h number r) refl is (λ g i. all_read more g k i)
    where
      by : (t : Result (Option Row) OpenFault) → said_to h number r ≡ t
          → and_then (λ j. restored h number j more) (and_then (λ said. Ok (as_told h g r.key said)) t) ≡ Ok k
          → ((g : Grants) → restored h number g more ≡ Ok k → AllRead h number (found_in more))
          → AllRead h number (found_in (r ∷ more))
      by (Ok said) told i rest = λ j. fault_found r more j (same_key r.key j) refl ∙ one j (same_key r.key j)
        where
          one : (j : Key) (t : Bool) → (if t then fault_at r.key r.bytes else fault_of h number (found_in more) j)
              ≡ None
          one j true = no_fault r said told
          one j false = rest (as_told h g r.key said) i j
      by (Err fault) told i rest = absurd cc

  -- what a refusal says
  abbrev Refuses : List Saved → OpenFault → Type 0
  Refuses list open_fault.NoSuchStation = ⊥
  Refuses list (open_fault.Row k code) = IsFirstFault h number (found_in list) k code
  Refuses list open_fault.BootsSpent = ⊥
  Refuses list (open_fault.Store fault) = ⊥
  Refuses list open_fault.Memory = Unit {0}

  refuses_here : (r : Saved) (more : List Saved) (fault : OpenFault) → rises (r ∷ more) ≡ true
      → said_to h number r ≡ Err fault → Refuses (r ∷ more) fault
  refuses_here r more fault rising is = by (r.key.station == number) refl is
    where
      first : (n : ℕ) → (r.key.station == number) ≡ true → row_of h r.key r.bytes ≡ Err (Code n)
          → IsFirstFault h number (found_in (r ∷ more)) r.key n
      first n mine at = record {
        fault = fault_found r more r.key true (same-itself r.key)
            ∙ ap (λ t. if t then fault_in (row_of h r.key r.bytes) else None) mine ∙ ap fault_in at;
        least = λ j early.
            fault_found r more j false (before-other j r.key early)
            ∙ nothing_there more j (not_found r.key more j rising (not_behind r.key j early));
      }

      read_to : (r.key.station == number) ≡ true → (x : Result Row RowFault) → row_of h r.key r.bytes ≡ x
          → own_row r.key x ≡ Err fault → Refuses (r ∷ more) fault
      read_to mine (Ok y) at i = absurd cc
      read_to mine (Err (Code n)) at i = let same : open_fault.Row r.key n ≡ fault = cc in
          subst (Refuses (r ∷ more)) same (first n mine at)
      read_to mine (Err Memory) at i = let same : open_fault.Memory ≡ fault = cc in subst (Refuses (r ∷ more)) same tt

      by : (t : Bool) → (r.key.station == number) ≡ t
          → (if t then own_row r.key (row_of h r.key r.bytes) else Ok None) ≡ Err fault → Refuses (r ∷ more) fault
      by true mine i = read_to mine (row_of h r.key r.bytes) refl i
      by false mine i = absurd cc

  refuses_later : (r : Saved) (more : List Saved) (fault : OpenFault) → rises_after r.key more ≡ true
      → fault_at r.key r.bytes ≡ None → Refuses more fault → Refuses (r ∷ more) fault
  refuses_later r more open_fault.NoSuchStation rising none rest = rest
  refuses_later r more (open_fault.Row k code) rising none rest = record {
    fault = fault_found r more k (same_key r.key k) refl ∙ at (same_key r.key k) refl;
    least = λ j early. fault_found r more j (same_key r.key j) refl ∙ before j early (same_key r.key j);
  }
    where
      at : (t : Bool) → same_key r.key k ≡ t
          → (if t then fault_at r.key r.bytes else fault_of h number (found_in more) k) ≡ Some code
      at true same = let wrong : Some code ≡ None = sym rest.fault
          ∙ nothing_there more k (not_again r more k rising same) in absurd cc
      at false other = rest.fault

      before : (j : Key) → is_before j k ≡ true → (t : Bool)
          → (if t then fault_at r.key r.bytes else fault_of h number (found_in more) j) ≡ None
      before j early true = none
      before j early false = rest.least j early
  refuses_later r more open_fault.BootsSpent rising none rest = rest
  refuses_later r more (open_fault.Store fault) rising none rest = rest
  refuses_later r more open_fault.Memory rising none rest = tt

  -- the first refused row is that of the least key
  pub first_refused : (list : List Saved) (g : Grants) (fault : OpenFault) → rises list ≡ true
      → restored h number g list ≡ Err fault → Refuses list fault
  first_refused [] g fault rising is = absurd cc
  first_refused (r ∷ more) g fault rising is =
      by (said_to h number r) refl is (λ g i. first_refused more g fault (rest_rises r more rising) i)
    where
      by : (t : Result (Option Row) OpenFault) → said_to h number r ≡ t
          → and_then (λ j. restored h number j more) (and_then (λ said. Ok (as_told h g r.key said)) t) ≡ Err fault
          → ((g : Grants) → restored h number g more ≡ Err fault → Refuses more fault) → Refuses (r ∷ more) fault
      by (Ok said) told i rest = refuses_later r more fault rising (no_fault r said told)
          (rest (as_told h g r.key said) i)
      by (Err f) told i rest = let same : f ≡ fault = cc in refuses_here r more fault rising (told ∙ ap Err same)

-- The boot.

-- a station has not started more often than it can
pub boot_within : (h : Hierarchy) (number : ℕ) (rows : Rows) → (grants_in h number rows).boot ≤ last_boot
boot_within h number rows = by (said h rows (key number 0 0)) refl
  where
    of_row : (r : Row) (b : List ℕ) → IsRow h (key number 0 0) b r → boot_of (Some r) ≤ last_boot
    of_row (row.Boot boot) b is = let w : IsWrittenIn is.0.0 (key number 0 0) b (row.Boot boot) = is.0.1 in
        by_kind is.0.0.kind w.range
      where
        by_kind : (a : RowKind) → is_row_of a is.0.0 (row.Boot boot) ≡ true → boot ≤ last_boot
        by_kind kind.Boot range = leb-true boot last_boot (and_parts (nat_le 1 boot) _ range).1
        by_kind kind.Domain range = clash (sym range)
        by_kind kind.Operator range = clash (sym range)
    of_row (row.Domain d) b is = omega arith
    of_row (row.Operator links) b is = omega arith

    by : (o : Option Row) → said h rows (key number 0 0) ≡ o → boot_of o ≤ last_boot
    by None is = omega arith
    by (Some r) is = let there = said_row h rows (key number 0 0) r is in of_row r there.0 there.1

record IsRaised (g k : Grants) : Type 0 where
  pub grants : k ≡ record g { boot = g.boot + 1 }
  pub left : nat_le last_boot g.boot ≡ false

raised_is : (g k : Grants) → raised g ≡ Ok k → IsRaised g k
raised_is g k is = by (nat_le last_boot g.boot) refl is
  where
    by : (t : Bool) → nat_le last_boot g.boot ≡ t
        → (if t then Err open_fault.BootsSpent else Ok (record g { boot = g.boot + 1 })) ≡ Ok k → IsRaised g k
    by true spent i = absurd cc
    by false spent i = let same : record g { boot = g.boot + 1 } ≡ k = cc in record { grants = sym same; left = spent }

raised_spent : (g : Grants) (fault : OpenFault) → raised g ≡ Err fault
    → (fault ≡ open_fault.BootsSpent) × (nat_le last_boot g.boot ≡ true)
raised_spent g fault is = by (nat_le last_boot g.boot) refl is
  where
    by : (t : Bool) → nat_le last_boot g.boot ≡ t
        → (if t then Err open_fault.BootsSpent else Ok (record g { boot = g.boot + 1 })) ≡ Err fault
        → (fault ≡ open_fault.BootsSpent) × (nat_le last_boot g.boot ≡ true)
    by true spent i = let same : open_fault.BootsSpent ≡ fault = cc in (sym same, spent)
    by false spent i = absurd cc

not_last : (n : ℕ) → nat_le last_boot n ≡ false → n ≢ last_boot
not_last n left same = clash (grind (arith, nat_tests))

-- What is started.

-- the grants that were restored before the boot was raised
record IsStarted (h : Hierarchy) (number : ℕ) (list : List Saved) (k : Grants) : Type 0 where
  pub before : Grants
  pub restored : restored h number no_grants list ≡ Ok before
  pub raised : IsRaised before k

started_is : (h : Hierarchy) (number : ℕ) (list : List Saved) (k : Grants) → started h number list ≡ Ok k
    → IsStarted h number list k
started_is h number list k is = by (restored h number no_grants list) refl is
  where
    by : (t : Result Grants OpenFault) → restored h number no_grants list ≡ t → and_then raised t ≡ Ok k
        → IsStarted h number list k
    by (Ok g) at i = record { before = g; restored = at; raised = raised_is g k i }
    by (Err fault) at i = absurd cc

-- the boot makes no difference
boot_sound : (h : Hierarchy) (g : Grants) (boot : ℕ) → IsSound h g → IsSound h (record g { boot = boot })
boot_sound h g boot sound = record {
  standing = sound.standing;
  holder = sound.holder;
  gathered = sound.gathered;
  at_rest = λ d settled. record {
    gathered = (sound.at_rest d settled).gathered;
    still = (sound.at_rest d settled).still;
  };
  at_work = sound.at_work;
  own = sound.own;
  child = sound.child;
  mode = sound.mode;
  few = sound.few;
}

module _ (h : Hierarchy) (number : ℕ) (list : List Saved) where
  -- whatever the rows, their result is what some rows mean
  pub started_sound : (k : Grants) → started h number list ≡ Ok k → IsSound h k × (is_boot k.boot ≡ true)
  started_sound k is =
      let s = started_is h number list k is in
      let means : s.before ≡ grants_in h number (over no_rows list) = restored_means h number no_rows list no_grants
      s.before (none_mean h number) s.restored in
      let within : s.before.boot ≤ last_boot = subst (λ (g : Grants). g.boot ≤ last_boot) (sym means)
      (boot_within h number (over no_rows list)) in
      let next : k.boot ≡ s.before.boot + 1 = ap (λ (g : Grants). g.boot) s.raised.grants in
      let apart : s.before.boot ≢ last_boot = not_last s.before.boot s.raised.left in (
        subst (IsSound h) (sym s.raised.grants) (boot_sound h s.before (s.before.boot + 1)
            (subst (IsSound h) (sym means) (grants_sound h number (over no_rows list)))),
        boot_range s.before.boot k.boot next within s.raised.left,
      )
    where
      boot_range : (n m : ℕ) → m ≡ n + 1 → n ≤ last_boot → nat_le last_boot n ≡ false → is_boot m ≡ true
      boot_range n m next within left = grind (arith, nat_tests)

  module _ (rows : Rows) (listing : IsListing rows list) where
    same_rows : found_in list ≡ rows
    same_rows = fun_ext listing.same

    means : (g : Grants) → restored h number no_grants list ≡ Ok g → g ≡ grants_in h number rows
    means g is = restored_means h number no_rows list no_grants g (none_mean h number) is
        ∙ ap (grants_in h number) (all_found list listing.rises ∙ same_rows)

    reads : (g : Grants) → restored h number no_grants list ≡ Ok g → AllRead h number rows
    reads g is = subst (AllRead h number) same_rows (all_read h number list no_grants g is)

    opens_ok : IsStation h number true → (k : Kept) → started h number list ≡ Ok (grants_of k)
        → Opens h number rows (beginning_with h number (Ok k))
    opens_ok there k is =
        let s = started_is h number list (grants_of k) is in
        let from = means s.before s.restored in (
          there,
          reads s.before s.restored,
          subst (λ (g : Grants). g.boot ≢ last_boot) from (not_last s.before.boot s.raised.left),
          ap (λ (g : Grants). record { grants = g; display = first_display h number; is_stopped = false })
              (s.raised.grants ∙ ap (λ (g : Grants). record g { boot = g.boot + 1 }) from),
        )

    -- either a row was refused, or the boots are spent
    started_err : (fault : OpenFault) → started h number list ≡ Err fault
        → Refuses h number list fault ⊎ ((fault ≡ open_fault.BootsSpent) × AllRead h number rows
        × ((grants_in h number rows).boot ≡ last_boot))
    started_err fault is = by (restored h number no_grants list) refl is
      where
        spent : (n : ℕ) → nat_le last_boot n ≡ true → n ≤ last_boot → n ≡ last_boot
        spent n over within = let least : last_boot ≤ n = leb-true last_boot n over in omega (arith, least, within)

        by : (t : Result Grants OpenFault) → restored h number no_grants list ≡ t → and_then raised t ≡ Err fault
            → Refuses h number list fault ⊎ ((fault ≡ open_fault.BootsSpent) × AllRead h number rows
            × ((grants_in h number rows).boot ≡ last_boot))
        by (Ok g) at i =
            let r = raised_spent g fault i in
            let from = means g at in
            inr (
              r.0,
              reads g at,
              spent (grants_in h number rows).boot
                  (subst (λ (k : Grants). nat_le last_boot k.boot ≡ true) from r.1) (boot_within h number rows),
            )
        by (Err f) at i = let same : f ≡ fault = cc in
            inl (first_refused h number list no_grants fault listing.rises (at ∙ ap Err same))

    opens_err : IsStation h number true → (fault : OpenFault)
        → Comes {X = Grants} (Err fault) (started h number list) → Opens h number rows (Err fault)
    opens_err there open_fault.NoSuchStation is =
        elim (started_err open_fault.NoSuchStation is)
        [ inl r ↦ absurd r | inr s ↦ let wrong : open_fault.NoSuchStation ≡ open_fault.BootsSpent = s.0 in absurd cc ]
    opens_err there (open_fault.Row k code) is = elim (started_err (open_fault.Row k code) is) [
      | inl r ↦ (there, subst (λ (t : Rows). IsFirstFault h number t k code) same_rows r)
      | inr s ↦ let wrong : open_fault.Row k code ≡ open_fault.BootsSpent = s.0 in absurd cc
    ]
    opens_err there open_fault.BootsSpent is =
        elim (started_err open_fault.BootsSpent is) [ inl r ↦ absurd r | inr s ↦ (there, s.1, s.2) ]
    opens_err there (open_fault.Store fault) is = there
    opens_err there open_fault.Memory is = tt

    pub opens_as : IsStation h number true → (x : Result Kept OpenFault)
        → Comes (grants_after x) (started h number list) → Opens h number rows (beginning_with h number x)
    opens_as there (Ok k) comes = opens_ok there k comes
    opens_as there (Err fault) comes = opens_err there fault comes

-- a start never tells a fault of the store
pub started_fault : (h : Hierarchy) (number : ℕ) (list : List Saved) (fault : OpenFault)
    → Comes {X = Grants} (Err fault) (started h number list) → IsNotOfStore fault
started_fault h number list open_fault.NoSuchStation comes = tt
started_fault h number list (open_fault.Row k code) comes = tt
started_fault h number list open_fault.BootsSpent comes = tt
started_fault h number list (open_fault.Store fault) comes =
    never list no_grants (by (restored h number no_grants list) refl comes)
  where
    by : (t : Result Grants OpenFault) → restored h number no_grants list ≡ t
        → and_then raised t ≡ Err (open_fault.Store fault)
        → restored h number no_grants list ≡ Err (open_fault.Store fault)
    by (Ok g) at i = let wrong : open_fault.Store fault
        ≡ open_fault.BootsSpent = (raised_spent g (open_fault.Store fault) i).0 in absurd cc
    by (Err f) at i = let same : f ≡ open_fault.Store fault = cc in at ∙ ap Err same

    not_told : (r : Saved) → said_to h number r ≡ Err (open_fault.Store fault) → ⊥
    not_told r is = either (r.key.station == number) is
      where
        read_to : (x : Result Row RowFault) → own_row r.key x ≡ Err (open_fault.Store fault) → ⊥
        read_to (Ok y) i = cc
        read_to (Err (Code n)) i = cc
        read_to (Err Memory) i = cc

        either : (t : Bool) → (if t then own_row r.key (row_of h r.key r.bytes) else Ok None)
            ≡ Err (open_fault.Store fault) → ⊥
        either true i = read_to (row_of h r.key r.bytes) i
        either false i = cc

    never : (xs : List Saved) (g : Grants) → restored h number g xs ≡ Err (open_fault.Store fault) → ⊥
    never [] g i = cc
    never (r ∷ more) g i = told (said_to h number r) refl i (λ k j. never more k j)
      where
        told : (t : Result (Option Row) OpenFault) → said_to h number r ≡ t
            → and_then (λ j. restored h number j more) (and_then (λ said. Ok (as_told h g r.key said)) t)
            ≡ Err (open_fault.Store fault)
            → ((k : Grants) → restored h number k more ≡ Err (open_fault.Store fault) → ⊥) → ⊥
        told (Ok said) at i rest = rest (as_told h g r.key said) i
        told (Err f) at i rest = let same : f ≡ open_fault.Store fault = cc in not_told r (at ∙ ap Err same)
started_fault h number list open_fault.Memory comes = tt
