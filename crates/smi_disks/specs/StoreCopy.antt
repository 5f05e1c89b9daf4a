-- What a store was when its log had been copied into its file, and whether its files are still so.
use Rattle.std.specs.Prelude.{ℕ, ◌&&◌, ◌++◌, not, Bool, false, List, Option, Some, None, option_map, if◌then◌else◌}
use Rattle.std.specs.Str.{bytes_eq}
use Rattle.sha2.specs.Sha256.{sha256}
use Rattle.smi_disks.specs.LogCheck.{is_damaged, salts_of_empty}
use Rattle.smi_disks.specs.declared.store_copy.StoreCopy.{StoreCopy}
use Rattle.smi_disks.specs.declared.store_copy.StoreHealth.{StoreHealth}
use Rattle.smi_disks.specs.declared.store_copy.StoreHealth.TheVariants.{Sound, DamagedLog, DamagedFile}

-- the salts of its log, which has nothing that is not copied, and the sum of its file
abbrev pub copy_of : List ℕ → List ℕ → Option StoreCopy
copy_of file log = option_map (λ salts. record { salts = salts; sum = sha256 file }) (salts_of_empty log)

abbrev pub copy_bytes : StoreCopy → List ℕ
copy_bytes c = c.salts ++ c.sum

abbrev pub differs_by : StoreCopy → List ℕ → Option (List ℕ) → Bool
differs_by c file None = false
differs_by c file (Some salts) = bytes_eq salts c.salts && not (bytes_eq (sha256 file) c.sum)

-- a file is not what it was, though its log has had nothing since
abbrev pub differs : StoreCopy → List ℕ → List ℕ → Bool
differs c file log = differs_by c file (salts_of_empty log)

abbrev pub file_health : Option StoreCopy → List ℕ → List ℕ → StoreHealth
file_health None file log = Sound
file_health (Some c) file log = if differs c file log then DamagedFile else Sound

abbrev pub health : Option StoreCopy → List ℕ → List ℕ → StoreHealth
health copy file log = if is_damaged log then DamagedLog else file_health copy file log
