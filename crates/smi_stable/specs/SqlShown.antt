-- A row of the table as a saved row.
use Rattle.std.specs.Prelude.{ℕ, ◌≡◌, pos, List, Option, Some, None, true}
use Rattle.sqlite.specs.declared.types.Value.TheVariants.{Int, Blob}
use Rattle.sqlite.specs.Order.{Row, column}
use Rattle.smi_rows.specs.declared.key.Key.{Key}
use Rattle.smi_rows.specs.Store.{Saved, found_in, rises}
use Rattle.smi_stable.specs.SqlListing.{listed_at}

-- the four columns are the key and the bytes
pub record IsShownAs (r : Row) (s : Saved) : Type 0 where
  pub station : column r 0 ≡ Int (pos s.key.station)
  pub domain : column r 1 ≡ Int (pos s.key.domain)
  pub operator : column r 2 ≡ Int (pos s.key.operator)
  pub bytes : column r 3 ≡ Blob s.bytes

-- the one that is there, or else the other
abbrev pub or_else : Option (List ℕ) → Option (List ℕ) → Option (List ℕ)
or_else None other = other
or_else (Some b) other = Some b

-- the list has each key's bytes, and its keys rise
pub record ShowsAll (rows : List Row) (list : List Saved) : Type 0 where
  pub same : (k : Key) → found_in list k ≡ listed_at (pos k.station) (pos k.domain) (pos k.operator) rows
  pub rises : rises list ≡ true
