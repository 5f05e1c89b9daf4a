-- The lines of a store's rows.
use Rattle.std.specs.Prelude.{ℕ, ◌+◌, ◌/◌, ◌%◌, nat_lt, if◌then◌else◌, List, [], ◌∷◌, ◌++◌}
use Rattle.std.specs.List.{flat_map}
use Rattle.std.specs.Fmt.{decimal}
use Rattle.smi_rows.specs.Store.{Saved}
use Rattle.smi_rows.specs.declared.key.Key.{Key}
use Rattle.smi_rows.specs.declared.stable.StoreFault.{StoreFault}
use Rattle.smi_rows.specs.declared.stable.StoreFault.TheVariants as store
use Rattle.smi_commands.specs.declared.rows.Listed.{Listed}
use Rattle.smi_commands.specs.declared.rows.Listed.TheVariants as listed

-- 0 to 9 and a to f
abbrev pub hex_digit : ℕ → ℕ
hex_digit digit = if nat_lt digit 10 then 48 + digit else 87 + digit

abbrev pub hex : ℕ → List ℕ
hex byte = hex_digit (byte / 16) ∷ hex_digit (byte % 16) ∷ []

abbrev pub hex_text : List ℕ → List ℕ
hex_text bytes = flat_map hex bytes

-- station, domain and operator, with a space after each
abbrev pub key_text : Key → List ℕ
key_text key = decimal key.station ++ 32 ∷ decimal key.domain ++ 32 ∷ decimal key.operator ++ 32 ∷ []

-- a row: its key, and its bytes in hexadecimal
abbrev pub row_text : Saved → List ℕ
row_text row = key_text row.key ++ hex_text row.bytes ++ 10 ∷ []

abbrev pub rows_text : List Saved → List ℕ
rows_text rows = flat_map row_text rows

-- what is told of a store that could not be read
abbrev pub listed_fault : StoreFault → Listed
listed_fault store.Memory = listed.Memory
listed_fault store.Device = listed.StoreFault
listed_fault store.Unsure = listed.StoreFault
