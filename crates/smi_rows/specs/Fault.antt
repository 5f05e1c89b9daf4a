-- The numbers of the tests that a row can fail.
use Rattle.std.specs.Prelude.{ℕ}
use Rattle.smi_rows.specs.declared.fault.RowFlaw.{RowFlaw}
use Rattle.smi_rows.specs.declared.fault.RowFlaw.TheVariants.{Length, Schema, Range, Unknown}

abbrev pub fault_code : RowFlaw → ℕ
fault_code Length = 1
fault_code Schema = 2
fault_code Range = 3
fault_code Unknown = 4
