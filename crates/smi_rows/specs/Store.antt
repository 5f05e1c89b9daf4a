-- Rows by their keys, and what a save makes of them.
use Rattle.std.specs.Prelude.{ℕ, ◌≡◌, ◌⊎◌, ◌==◌, ◌&&◌, nat_lt, Bool, true, if◌then◌else◌, List, [], ◌∷◌, Option, Some}
use Rattle.std.specs.Prelude.{None, Result, Ok, Err}
use Rattle.smi_rows.specs.declared.key.Key.{Key}
use Rattle.smi_rows.specs.declared.stable.StoreFault.{StoreFault}
use Rattle.smi_rows.specs.declared.stable.StoreFault.TheVariants.{Memory, Device, Unsure}

-- the bytes under each key
abbrev pub Rows : Type 0
Rows = Key → Option (List ℕ)

abbrev pub IsSame : Rows → Rows → Type 0
IsSame a b = (k : Key) → a k ≡ b k

abbrev pub same_key : Key → Key → Bool
same_key a b = a.station == b.station && (a.domain == b.domain && a.operator == b.operator)

-- these rows, with the one of this key replaced
abbrev pub with_row : Key → List ℕ → Rows → Rows
with_row key bytes rows k = if same_key key k then Some bytes else rows k

-- keys are ordered by station, domain and operator
abbrev pub is_before : Key → Key → Bool
is_before a b =
    if a.station == b.station
    then (if a.domain == b.domain then nat_lt a.operator b.operator else nat_lt a.domain b.domain)
    else nat_lt a.station b.station

-- a row and its key
pub record Saved : Type 0 where
  pub key : Key
  pub bytes : List ℕ

abbrev pub saved : Key → List ℕ → Saved
saved key bytes = record { key = key; bytes = bytes }

-- the bytes under a key in a list
abbrev pub found_in : List Saved → Key → Option (List ℕ)
found_in [] k = None
found_in (r ∷ more) k = if same_key r.key k then Some r.bytes else found_in more k

abbrev pub rises_after : Key → List Saved → Bool
rises_after key [] = true
rises_after key (r ∷ more) = is_before key r.key && rises_after r.key more

-- the keys rise
abbrev pub rises : List Saved → Bool
rises [] = true
rises (r ∷ more) = rises_after r.key more

-- all rows, each once, by rising key
pub record IsListing (rows : Rows) (list : List Saved) : Type 0 where
  pub same : IsSame (found_in list) rows
  pub rises : rises list ≡ true

-- a result that leaves no doubt
abbrev pub IfSure : {X : Type 0} → Result X StoreFault → Type 0 → Type 0
IfSure (Ok x) P = P
IfSure (Err Memory) P = P
IfSure (Err Device) P = P
IfSure (Err Unsure) P = Unit {0}

-- the row was not saved
abbrev pub IfNotSaved : {X : Type 0} → Result X StoreFault → Type 0 → Type 0
IfNotSaved (Ok x) P = Unit {0}
IfNotSaved (Err Memory) P = P
IfNotSaved (Err Device) P = P
IfNotSaved (Err Unsure) P = Unit {0}

abbrev pub IfUnsure : {X : Type 0} → Result X StoreFault → Type 0 → Type 0
IfUnsure (Ok x) P = Unit {0}
IfUnsure (Err Memory) P = Unit {0}
IfUnsure (Err Device) P = Unit {0}
IfUnsure (Err Unsure) P = P

-- a failure of the store, and not out of memory
abbrev pub IfFailed : {X : Type 0} → Result X StoreFault → Type 0 → Type 0
IfFailed (Ok x) P = Unit {0}
IfFailed (Err Memory) P = Unit {0}
IfFailed (Err Device) P = P
IfFailed (Err Unsure) P = P

-- no failure of the store: all went well, or memory was refused
abbrev pub IfCalm : {X : Type 0} → Result X StoreFault → Type 0 → Type 0
IfCalm (Ok x) P = P
IfCalm (Err Memory) P = P
IfCalm (Err Device) P = Unit {0}
IfCalm (Err Unsure) P = Unit {0}

-- what is listed after a save: the rows as saved, the rows as before, or in doubt one of them
abbrev pub ListsAfter : {X : Type 0} → Result X StoreFault → Rows → Rows → List Saved → Type 0
ListsAfter (Ok x) before after list = IsListing after list
ListsAfter (Err Memory) before after list = IsListing before list
ListsAfter (Err Device) before after list = IsListing before list
ListsAfter (Err Unsure) before after list = IsListing before list ⊎ IsListing after list
