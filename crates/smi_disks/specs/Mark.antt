-- The mark of a tree, and how two trees compare by their marks.
use Rattle.std.specs.Prelude.{ℕ, ◌==◌, List, ◌++◌, if◌then◌else◌}
use Rattle.std.specs.Int.{w16, to_be_bytes}
use Rattle.std.specs.Str.{bytes_eq}
use Rattle.smi_disks.specs.declared.mark.TreeMark.{TreeMark}
use Rattle.smi_disks.specs.declared.mark.Kinship.{Kinship}
use Rattle.smi_disks.specs.declared.mark.Kinship.TheVariants.{Same, Changed, Other}

-- the number, the most significant byte first, and the digest
abbrev pub mark_bytes : TreeMark → List ℕ
mark_bytes m = to_be_bytes w16 m.number ++ m.digest

-- the same number and the same digest, the same number alone, or not even that
abbrev pub kin : TreeMark → TreeMark → Kinship
kin own other =
    if own.number == other.number then (if bytes_eq own.digest other.digest then Same else Changed) else Other
