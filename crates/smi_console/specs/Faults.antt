-- How a node ends.
use Rattle.std.specs.Prelude.{Result, Ok, Err}
use Rattle.smi_commands.specs.declared.status.Status.{Status}
use Rattle.smi_commands.specs.declared.status.Status.TheVariants as status
use Rattle.smi_node.specs.declared.turns.ServeFault.{ServeFault}
use Rattle.smi_node.specs.declared.turns.ServeFault.TheVariants as serve
use Rattle.smi_protocol.specs.declared.fault.OpenFault.{OpenFault}
use Rattle.smi_protocol.specs.declared.fault.OpenFault.TheVariants as fault
use Rattle.smi_console.specs.declared.exit.StartError.{StartError}
use Rattle.smi_console.specs.declared.exit.StartError.TheVariants as error

-- a row or a store at fault is told as such; a station that the tree does not have is a wrong line
abbrev pub status_of : OpenFault → Status
status_of fault.NoSuchStation = status.WrongLine
status_of (fault.Row key code) = status.Refused
status_of fault.BootsSpent = status.Fault
status_of (fault.Store cause) = status.Fault
status_of fault.Memory = status.NoMemory

-- all turns of a service were made, or it ended with a fault
abbrev pub status_by : Result (Unit {0}) ServeFault → Status
status_by (Ok u) = status.Done
status_by (Err serve.Stopped) = status.Fault
status_by (Err serve.Memory) = status.NoMemory
status_by (Err serve.Link) = status.Fault

-- an open station is not served
abbrev pub status_at : StartError → Status
status_at error.Memory = status.NoMemory
status_at error.Link = status.Fault
status_at error.Console = status.Fault
status_at error.Journal = status.Fault

-- an open station was served, or not
abbrev pub status_in : Result (Result (Unit {0}) ServeFault) StartError → Status
status_in (Ok served) = status_by served
status_in (Err why) = status_at why
