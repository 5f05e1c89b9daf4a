-- When two readings of a store's files tell what they were at one moment, and how a listing of them ended.
use Rattle.std.specs.Prelude.{Bool, true, false, ◌&&◌}
use Rattle.std.specs.Str.{bytes_eq}
use Rattle.smi_commands.specs.declared.rows.Listed.{Listed}
use Rattle.smi_commands.specs.declared.rows.Listed.TheVariants.{Done, StoreFault, WriteFault, Memory}
use Rattle.smi_disks.specs.declared.listing.Copy.{Copy}

-- both have the same bytes, and at the second no other program was changing the file
abbrev pub are_of_one_moment : Copy → Copy → Bool
are_of_one_moment first second =
    second.is_settled && (bytes_eq first.db.items second.db.items && bytes_eq first.log.items second.log.items)

-- a disk in memory that may not be used any more was refused an allocation
abbrev pub found_out : Listed → Bool → Listed
found_out Done may_be_used = Done
found_out StoreFault true = StoreFault
found_out StoreFault false = Memory
found_out WriteFault may_be_used = WriteFault
found_out Memory may_be_used = Memory
