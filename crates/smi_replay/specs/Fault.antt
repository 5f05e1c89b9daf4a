-- The numbers of faults.
use Rattle.std.specs.Prelude.{ℕ}
use Rattle.smi_replay.specs.declared.fault.LineFault.{LineFault}
use Rattle.smi_replay.specs.declared.fault.LineFault.TheVariants as fault

-- the number that stands for a fault
abbrev pub line_fault_code : LineFault → ℕ
line_fault_code fault.UnknownWord = 1
line_fault_code fault.WordCount = 2
line_fault_code fault.Malformed = 3
line_fault_code fault.UnknownName = 5
line_fault_code fault.LineTooLong = 10
line_fault_code fault.OtherStation = 13
line_fault_code fault.BootGoesBack = 14
line_fault_code fault.OtherTree = 15
