-- Which bytes are rows.
use Rattle.std.specs.Prelude.{ℕ, ◌≡◌, true, List, Some}
use Rattle.smi_tree.specs.Hierarchy.{Hierarchy}
use Rattle.smi_rows.specs.declared.key.Key.{Key}
use Rattle.smi_rows.specs.declared.row.Row.{Row}
use Rattle.smi_rows.specs.declared.schema.Schema.{Schema}
use Rattle.smi_rows.specs.Key.{kind_of}
use Rattle.smi_rows.specs.Known.{is_known}
use Rattle.smi_rows.specs.Layout.{row_bytes}
use Rattle.smi_rows.specs.Ranges.{is_row_in}
use Rattle.smi_rows.specs.Schema.{schema_of}

-- a row of the key's kind, written so in a schema of that kind that can say it
pub record IsWrittenIn (s : Schema) (k : Key) (b : List ℕ) (r : Row) : Type 0 where
  pub kind : kind_of k ≡ Some s.kind
  pub schema : schema_of s.kind s.number ≡ Some s
  pub range : is_row_in s r ≡ true
  pub bytes : b ≡ row_bytes s.number r

abbrev pub IsWritten : Key → List ℕ → Row → Type 0
IsWritten k b r = (s : Schema) × IsWrittenIn s k b r

-- and the tree has what it names
abbrev pub IsRow : Hierarchy → Key → List ℕ → Row → Type 0
IsRow h k b r = IsWritten k b r × (is_known h k r ≡ true)
