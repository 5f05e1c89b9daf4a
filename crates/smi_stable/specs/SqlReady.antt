-- What a connection over the table of stable rows keeps.
use Rattle.std.specs.Prelude.{◌≡◌, ◌⊎◌, ℕ, pos, Bool, false, List, [], ◌∷◌, Option, IsTrue}
use Rattle.sqlite.specs.declared.types.Value.TheVariants.{Null, Int, Blob}
use Rattle.sqlite.specs.Order.{Row}
use Rattle.sqlite.specs.Tree.{Trees}
use Rattle.sqlite.specs.State.{State, HasCleanDisk}
use Rattle.smi_rows.specs.declared.key.Key.{Key}
use Rattle.smi_stable.specs.SqlTable.{stable_schema, no_schema}
use Rattle.smi_rows.specs.Store.{IsSame, with_row}
use Rattle.smi_stable.specs.SqlRows.{at_key, has_key, IsKeyed}

-- the rows of a database, by their keys
abbrev pub rows_in : Trees → Key → Option (List ℕ)
rows_in db k = at_key (pos k.station) (pos k.domain) (pos k.operator) (db 0)

abbrev pub rows_of : State → Key → Option (List ℕ)
rows_of s = rows_in s.now.trees

-- the key is this one, as SQL compares numbers
abbrev pub is_at : Key → Key → Bool
is_at key k = has_key (pos k.station) (pos k.domain) (pos k.operator)
    (Null ∷ Int (pos key.station) ∷ Int (pos key.domain) ∷ Int (pos key.operator) ∷ [])

-- the connection is open on the table of stable rows, outside a transaction
pub record IsAtRest (s : State) : Type 0 where
  pub schema : s.now.schema ≡ stable_schema
  pub keyed : IsKeyed (s.now.trees 0)
  pub settled : s.committed ≡ s.now

-- as long as the disk is honest, it is outside a transaction, and at rest if it is open
abbrev pub IsReady : State → Type 0
IsReady s = HasCleanDisk s → (s.in_transaction ≡ false) × (IsTrue s.is_open → IsAtRest s)

-- a crash leaves the rows as before or as saved
abbrev pub LeavesEither : State → State → Key → List ℕ → Type 0
LeavesEither old new key bytes = (db : Trees) → new.may_leave db
    → IsSame (rows_in db) (rows_of old) ⊎ IsSame (rows_in db) (with_row key bytes (rows_of old))

-- and nothing but the rows
abbrev pub LeavesOnly : State → Type 0
LeavesOnly s = (db : Trees) → s.may_leave db → IsSame (rows_in db) (rows_of s)

-- what the statement of a save is given
abbrev pub key_values : Key → List ℕ → Row
key_values k b = Int (pos k.station) ∷ Int (pos k.domain) ∷ Int (pos k.operator) ∷ Blob b ∷ []

-- the rows are the table's, and nothing waits to be committed
abbrev pub IsSettled : State → Type 0
IsSettled s = s.committed ≡ s.now

-- a connection was taken over: its rows stay, or the table was made and is empty
abbrev pub IsAdopted : State → State → Type 0
IsAdopted old new =
    (new.in_transaction ≡ false) × (new.now.schema ≡ stable_schema)
    × (((old.now.schema ≡ stable_schema) × (new.now ≡ old.now))
    ⊎ ((old.now.schema ≡ no_schema) × (new.now.trees 0 ≡ [])))
    × (IsTrue new.is_open → IsSettled new)

-- the connection is open, and nothing waits to be committed
abbrev pub IsInUse : State → Type 0
IsInUse s = IsTrue s.is_open × IsSettled s

-- another connection over the database of one at rest: it is at rest too, and has the same rows
pub record IsReopened (old new : State) : Type 0 where
  pub mode : new.in_transaction ≡ false
  pub is_open : IsTrue new.is_open
  pub rest : IsAtRest new
  pub same : new.now.trees ≡ old.now.trees
