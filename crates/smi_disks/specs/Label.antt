-- The label of a store, and how old its rows are by it.
use Rattle.std.specs.Prelude.{ℕ, ◌==◌, nat_lt, nat_le, List, ◌++◌, length, Option, Some, None, if◌then◌else◌}
use Rattle.std.specs.Int.{w16, w32, to_be_bytes}
use Rattle.smi_base.specs.Bytes.{u32_at}
use Rattle.smi_rows.specs.Key.{kind_of}
use Rattle.smi_rows.specs.declared.key.Key.{Key}
use Rattle.smi_rows.specs.declared.key.RowKind.{RowKind}
use Rattle.smi_rows.specs.declared.key.RowKind.TheVariants.{Boot, Domain, Operator}
use Rattle.smi_disks.specs.Mark.{mark_bytes}
use Rattle.smi_disks.specs.declared.mark.TreeMark.{TreeMark}
use Rattle.smi_disks.specs.declared.label.LastStart.{LastStart}
use Rattle.smi_disks.specs.declared.label.StoreLabel.{StoreLabel}
use Rattle.smi_disks.specs.declared.label.StoreAge.{StoreAge}
use Rattle.smi_disks.specs.declared.label.StoreAge.TheVariants.{Current, Empty, Older}

-- the station and the boot, each with the most significant byte first
abbrev pub start_bytes : LastStart → List ℕ
start_bytes s = to_be_bytes w16 s.station ++ to_be_bytes w32 s.boot

-- the mark of the tree, and behind it the last start
abbrev pub with_start : TreeMark → LastStart → List ℕ
with_start tree start = mark_bytes tree ++ start_bytes start

abbrev pub spelled_so : TreeMark → Option LastStart → List ℕ
spelled_so tree None = mark_bytes tree
spelled_so tree (Some start) = with_start tree start

-- the bytes of a label; one that names no start is a mark alone
abbrev pub spelled : StoreLabel → List ℕ
spelled label = spelled_so label.tree label.last

-- the boot of a start of this station
abbrev pub boot_of : ℕ → Option LastStart → Option ℕ
boot_of station None = None
boot_of station (Some start) = if start.station == station then Some start.boot else None

abbrev pub noted : StoreLabel → ℕ → Option ℕ
noted label station = boot_of station label.last

-- how old rows are by the boot that a label notes and the one that they have
abbrev pub age : Option ℕ → Option ℕ → StoreAge
age None stored = Current
age (Some boot) None = Empty
age (Some boot) (Some stored) = if nat_lt stored boot then Older else Current

abbrev pub start_so : ℕ → Option RowKind → List ℕ → Option LastStart
start_so station None row = None
start_so station (Some Domain) row = None
start_so station (Some Operator) row = None
start_so station (Some Boot) row =
    if nat_le 8 (length row) then Some (record { station = station; boot = u32_at row 4 }) else None

-- the start that a row is of, which a boot row alone is
abbrev pub start_in : Key → List ℕ → Option LastStart
start_in key row = start_so key.station (kind_of key) row

-- the start that is noted last after a row is saved: its own, if it is a boot row
abbrev pub noted_after : Option LastStart → Option LastStart → Option LastStart
noted_after None before = before
noted_after (Some start) before = Some start
