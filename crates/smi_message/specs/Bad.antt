-- The numbers of the tests that bytes can fail.
use Rattle.std.specs.Prelude.{ℕ}
use Rattle.smi_message.specs.declared.bad.Bad.{Bad}
use Rattle.smi_message.specs.declared.bad.Bad.TheVariants as bad
use Rattle.smi_message.specs.declared.refusal.DatagramRefusal.{DatagramRefusal}
use Rattle.smi_message.specs.declared.refusal.DatagramRefusal.TheVariants as refusal

abbrev pub bad_code : Bad → ℕ
bad_code bad.Length = 1
bad_code bad.Magic = 2
bad_code bad.Layout = 3
bad_code bad.Kind = 4
bad_code bad.Range = 5
bad_code bad.Unused = 6

abbrev pub refusal_code : DatagramRefusal → ℕ
refusal_code (refusal.Bad b) = bad_code b
refusal_code refusal.OtherTree = 7
refusal_code refusal.OtherStation = 8
refusal_code refusal.Unknown = 9
