-- What the row of a key is about.
use Rattle.std.specs.Prelude.{◌==◌, Option, Some, None, if◌then◌else◌}
use Rattle.smi_rows.specs.declared.key.Key.{Key}
use Rattle.smi_rows.specs.declared.key.RowKind.{RowKind}
use Rattle.smi_rows.specs.declared.key.RowKind.TheVariants as kind

-- no row is about a domain and an operator
abbrev pub kind_of : Key → Option RowKind
kind_of k =
    if k.operator == 0 then (if k.domain == 0 then Some kind.Boot else Some kind.Domain)
    else (if k.domain == 0 then Some kind.Operator else None)
