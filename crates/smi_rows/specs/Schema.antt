-- The schemas of rows, and what the rows of each can say.
use Rattle.std.specs.Prelude.{ℕ, ◌==◌, ◌&&◌, nat_le, Bool, true, false, if◌then◌else◌, Option, Some, None}
use Rattle.smi_rows.specs.declared.key.RowKind.{RowKind}
use Rattle.smi_rows.specs.declared.key.RowKind.TheVariants as kind
use Rattle.smi_rows.specs.declared.schema.Schema.{Schema}

-- the newest schema of such rows
abbrev pub newest : RowKind → ℕ
newest kind.Boot = 2
newest kind.Domain = 2
newest kind.Operator = 3

-- schemas are numbered from 1
abbrev pub schema_of : RowKind → ℕ → Option Schema
schema_of k n = if nat_le 1 n && nat_le n (newest k) then Some (record { kind = k; number = n }) else None

abbrev pub is_about_domain : RowKind → Bool
is_about_domain kind.Boot = false
is_about_domain kind.Domain = true
is_about_domain kind.Operator = false

-- modes came with the second schema of domain rows
abbrev pub has_modes : Schema → Bool
has_modes s = is_about_domain s.kind && s.number == 2

-- the last two verbs came with the second schema
abbrev pub last_verb : Schema → ℕ
last_verb s = if s.number == 1 then 3 else 5

-- several pending commands came with the third
abbrev pub most_pending_in : Schema → ℕ
most_pending_in s = if s.number == 3 then 8 else 1
