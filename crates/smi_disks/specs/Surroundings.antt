-- Whether the files of a store that is open are in place.
use Rattle.std.specs.Prelude.{◌≡◌, ◌≢◌, Result, Ok, Err}
use Rattle.std.specs.IoError.{error_kind}
use Rattle.std.specs.declared.io.Error.{Error}
use Rattle.std.specs.declared.io.ErrorKind.TheVariants.{NotFound}
use Rattle.smi_disks.specs.declared.surroundings.FileId.{FileId}

-- a file is there if it is the one that was found at its path, or if the system did not tell
abbrev pub IsThere : FileId → Result FileId Error → Type 0
IsThere file (Ok found) = found ≡ file
IsThere file (Err fault) = error_kind fault ≢ NotFound
