-- What a screen does to its store, and how it ends.
use Rattle.std.specs.Prelude.{ℕ, ◌≡◌, ◌<◌, ◌≤◌, ◌+◌, ◌⊎◌, false, slice_get, Option, Some, None, Result, Ok, Err}
use Rattle.std.specs.Prelude.{IfOk, IfErr, OnOk}
use Rattle.smi_tree.specs.Hierarchy.{Hierarchy}
use Rattle.smi_rows.specs.Store.{IsSame, Rows}
use Rattle.smi_protocol.specs.Loading.{IsStation, Opens}
use Rattle.smi_protocol.specs.declared.fault.OpenFault.{OpenFault}
use Rattle.smi_protocol.specs.declared.fault.OpenFault.TheVariants as open_fault
use Rattle.smi_station_grants.specs.Migrating.{Counts, IfRefused, IsPartly, Migrates, in_newest}
use Rattle.smi_station_grants.specs.Starting.{IfCertain, IfInDoubt, IfStoreFailed, IfStoreUnfailed, IfUnchanged}
use Rattle.smi_station_grants.specs.Starting.{IsToldAsMemory, after_start}
use Rattle.smi_station.specs.Core.{IsOf, IsStoredIn, begun}
use Rattle.smi_station.specs.Readers.{Whole, core_in, operators_in, store_in}
use Rattle.smi_node.specs.Carried.{StepsTo}
use Rattle.smi_node.specs.Linked.{LinkShows}
use Rattle.smi_view.specs.Pictured.{Pictured}
use Rattle.smi_screen.specs.Ending.{IsOfStart, end_of}
use Rattle.smi_screen.specs.Looking.{Stepping, view}
use Rattle.smi_screen.specs.Turning.{LooksFor}
use Rattle.smi_screen.specs.declared.screen.Ended.{Ended}
use Rattle.smi_screen.specs.declared.screen.Ended.TheVariants as ended

-- The rows of a station are brought into their newest schema, or not: all that is said of `migrate`.
pub record MigratesOn {S : Type 0} (is_honest is_open : S → Type 0) (rows : S → Rows) (may_find : S → Rows → Type 0)
    (saves failures doubts : S → ℕ) (h : Hierarchy) (number : ℕ) (before after : S) (r : Result ℕ OpenFault)
    : Type 0 where
  pub migrates : is_honest after → Migrates h number (rows before) r
  pub stranger : IsStation h number false → (r ≡ Err open_fault.NoSuchStation) × (after ≡ before)
  pub newest : is_honest after → OnOk r (is_open after × IsSame (rows after) (in_newest h number (rows before)))
  pub count : is_honest after → IfOk r (λ n. Counts number (rows before) n)
  pub partly : is_honest after → is_open before → is_open after → IsPartly h number (rows before) (rows after)
  pub crash : is_honest after → is_open before → (found : Rows) → may_find after found
      → IsPartly h number (rows before) found
  pub certain : is_honest after → is_open before → IfCertain r (is_open after)
  pub refused : is_honest after → is_open before → IfRefused r (is_open after × IsSame (rows after) (rows before))
  pub unsaved : IfRefused r (saves after ≡ saves before)
  pub saved : is_honest after → IfOk r (λ n. saves after ≡ saves before + n)
  pub honest : is_honest after → is_honest before
  pub failed : failures before ≤ failures after
  pub cause : IfStoreFailed r (failures before < failures after)
  pub calm : IfStoreUnfailed r (failures after ≡ failures before)
  pub doubt : IfInDoubt r (doubts before < doubts after)
  pub sure : IfCertain r (doubts after ≡ doubts before)
  pub fault : IfErr r IsToldAsMemory

-- A station opens on its store, or gives it back with a fault: all that is said of `Station::open`.
pub record OpensOn {S : Type 0} (is_honest is_open : S → Type 0) (rows : S → Rows) (may_find : S → Rows → Type 0)
    (saves failures doubts : S → ℕ) (h : Hierarchy) (number : ℕ) (before : S) (r : Result (Whole S) (OpenFault × S))
    : Type 0 where
  pub opens : is_honest (store_in r) → Opens h number (rows before) (begun (core_in r))
  pub of : IfOk (core_in r) (IsOf h number)
  pub stranger : IsStation h number false → (core_in r ≡ Err open_fault.NoSuchStation) × (store_in r ≡ before)
  pub stored : is_honest (store_in r) → IfOk (core_in r) (IsStoredIn (rows (store_in r)))
  pub saved : is_honest (store_in r)
      → OnOk r (is_open (store_in r) × IsSame (rows (store_in r)) (after_start h number (rows before)))
  pub kept : is_honest (store_in r) → is_open before
      → IfUnchanged (core_in r) (is_open (store_in r) × IsSame (rows (store_in r)) (rows before))
  pub unsure : is_honest (store_in r) → is_open before → is_open (store_in r)
      → IfInDoubt (core_in r) (IsSame (rows (store_in r)) (rows before)
      ⊎ IsSame (rows (store_in r)) (after_start h number (rows before)))
  pub crash : is_honest (store_in r) → is_open before → (found : Rows) → may_find (store_in r) found
      → IsSame found (rows before) ⊎ IsSame found (after_start h number (rows before))
  pub honest : is_honest (store_in r) → is_honest before
  pub once : saves (store_in r) ≤ saves before + 1
  pub failed : failures before ≤ failures (store_in r)
  pub cause : IfStoreFailed (core_in r) (failures before < failures (store_in r))
  pub calm : IfStoreUnfailed (core_in r) (failures (store_in r) ≡ failures before)
  pub doubt : IfInDoubt (core_in r) (doubts before < doubts (store_in r))
  pub sure : IfCertain (core_in r) (doubts (store_in r) ≡ doubts before)
  pub fault : IfErr (core_in r) IsToldAsMemory

-- a station looks for all of its turns, or until one ends with a fault, over some link and from some picture on
abbrev pub LooksOver : {T : Type 0} → Stepping T → ℕ → Option ℕ → T → T → Result (Unit {0}) Ended → Type 0
LooksOver S operator turns before after r =
    (first : LinkShows) × (last : LinkShows) × (had : Pictured) × (has : Pictured)
    × LooksFor S operator turns (view before first had) (view after last has) r

-- a station is left as it is, because a fault comes before its first turn
abbrev pub StartsNot : {T : Type 0} → T → T → Result (Unit {0}) Ended → Type 0
StartsNot before after r = (e : Ended) × IsOfStart e × (r ≡ Err e) × (after ≡ before)

-- a station looks in the name of this operator, if there is one and nothing is amiss before
abbrev pub LooksIfStarted : {T : Type 0} → Stepping T → Option ℕ → Option ℕ → T → T → Result (Unit {0}) Ended → Type 0
LooksIfStarted S None turns before after r = (r ≡ Err ended.NoOperator) × (after ≡ before)
LooksIfStarted S (Some operator) turns before after r =
    LooksOver S operator turns before after r ⊎ StartsNot before after r

-- in whose name a station looks: the first of its operators
abbrev pub looker_of : {S : Type 0} → Whole S → Option ℕ
looker_of station = slice_get (operators_in station.core) 0

-- a screen gives back the store of its station, which has looked or not; or that on which none opened
abbrev pub GivesBack : {S : Type 0} → Stepping (Whole S) → Option ℕ → Result (Whole S) (OpenFault × S) → Ended × S
    → Type 0
GivesBack {S} Steps turns (Ok station) r =
    (last : Whole S) × (how : Result (Unit {0}) Ended)
    × LooksIfStarted Steps (looker_of station) turns station last how × (r.0 ≡ end_of how) × (r.1 ≡ last.store)
GivesBack Steps turns (Err e) r = (r.0 ≡ ended.Opening e.0) × (r.1 ≡ e.1)

-- a station of this number opens on a store, looks and ends
abbrev pub OpensAndLooks : {S : Type 0} (is_honest is_open : S → Type 0) (rows : S → Rows)
    (may_find : S → Rows → Type 0) (saves failures doubts : S → ℕ) → Hierarchy → ℕ → Option ℕ → S → Ended × S → Type 0
OpensAndLooks {S} is_honest is_open rows may_find saves failures doubts h number turns store r =
    (opened : Result (Whole S) (OpenFault × S))
    × OpensOn is_honest is_open rows may_find saves failures doubts h number store opened
    × GivesBack (StepsTo is_honest is_open rows may_find saves failures doubts) turns opened r

-- it does so if its rows were brought into their newest schema; else the screen ends with that fault, and that store
abbrev pub LooksIfMigrated : {S : Type 0} (is_honest is_open : S → Type 0) (rows : S → Rows)
    (may_find : S → Rows → Type 0) (saves failures doubts : S → ℕ) → Hierarchy → ℕ → Option ℕ → Result ℕ OpenFault
    → S → Ended × S → Type 0
LooksIfMigrated is_honest is_open rows may_find saves failures doubts h number turns (Ok renewed) store r =
    OpensAndLooks is_honest is_open rows may_find saves failures doubts h number turns store r
LooksIfMigrated is_honest is_open rows may_find saves failures doubts h number turns (Err fault) store r =
    (r.0 ≡ ended.Opening fault) × (r.1 ≡ store)

-- A screen of the station of this number runs on a store, for so many turns.
abbrev pub RunsScreen : {S : Type 0} (is_honest is_open : S → Type 0) (rows : S → Rows)
    (may_find : S → Rows → Type 0) (saves failures doubts : S → ℕ) → Hierarchy → ℕ → Option ℕ → S → Ended × S → Type 0
RunsScreen {S} is_honest is_open rows may_find saves failures doubts h number turns store r =
    (between : S) × (migrated : Result ℕ OpenFault)
    × MigratesOn is_honest is_open rows may_find saves failures doubts h number store between migrated
    × LooksIfMigrated is_honest is_open rows may_find saves failures doubts h number turns migrated between r
