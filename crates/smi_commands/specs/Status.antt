-- The exit statuses.
use Rattle.std.specs.Prelude.{ℕ}
use Rattle.smi_commands.specs.declared.status.Status.{Status}
use Rattle.smi_commands.specs.declared.status.Status.TheVariants.{Done, Refused, WrongLine, Fault, NoMemory}

abbrev pub status_code : Status → ℕ
status_code Done = 0
status_code Refused = 1
status_code WrongLine = 2
status_code Fault = 3
status_code NoMemory = 4
