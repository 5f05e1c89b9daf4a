-- What a connection is like that was not taken over.
use Rattle.std.specs.Prelude.{◌≡◌, ◌⊎◌, IsTrue, []}
use Rattle.sqlite.specs.Tree.{Trees}
use Rattle.sqlite.specs.State.{State, HasCleanDisk}
use Rattle.smi_stable.specs.SqlTable.{stable_schema, no_schema}

-- there was no table, and it was made and is empty
abbrev pub IsMade : State → State → Type 0
IsMade old new = (old.now.schema ≡ no_schema) × (new.now.schema ≡ stable_schema) × (new.now.trees 0 ≡ [])

-- there was no table, and a stop may leave it, empty
abbrev pub MayBeMade : State → Trees → Type 0
MayBeMade old db = (old.now.schema ≡ no_schema) × (db 0 ≡ [])

-- it is in a transaction where it was, it holds what it held as long as it is open, and a stop leaves what it left;
-- but for the empty table, which may have been made
pub record IsGivenBack (old new : State) : Type 0 where
  pub clean : HasCleanDisk old
  pub mode : new.in_transaction ≡ old.in_transaction
  pub was_open : IsTrue new.is_open → IsTrue old.is_open
  pub kept : IsTrue new.is_open → (new.now ≡ old.now) ⊎ IsMade old new
  pub crash : (db : Trees) → new.may_leave db → old.may_leave db ⊎ MayBeMade old db
