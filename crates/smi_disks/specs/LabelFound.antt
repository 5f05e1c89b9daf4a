-- What is at the place of a store's label, and what it says to a station that opens the store.
use Rattle.std.specs.Prelude.{ℕ, ◌≡◌, ◌≢◌, List, length, Option, None}
use Rattle.smi_disks.specs.Label.{noted, spelled}
use Rattle.smi_disks.specs.Mark.{kin}
use Rattle.smi_disks.specs.declared.mark.TreeMark.{TreeMark}
use Rattle.smi_disks.specs.declared.mark.Kinship.{Kinship}
use Rattle.smi_disks.specs.declared.mark.Kinship.TheVariants.{Same, Other}
use Rattle.smi_disks.specs.declared.label_found.LabelFound.{LabelFound}
use Rattle.smi_disks.specs.declared.label_found.LabelFound.TheVariants.{Nothing, Label, Foreign}

-- a file with these bytes is that label, or no label if no label has as many bytes
abbrev pub IsReadAs : LabelFound → List ℕ → Type 0
IsReadAs Nothing bytes = ⊥
IsReadAs (Label label) bytes = bytes ≡ spelled label
IsReadAs Foreign bytes = (length bytes ≢ 34) × (length bytes ≢ 40)

-- a store without a label may be of any tree; one with a file that is no label is of another
abbrev pub kinship_by : LabelFound → TreeMark → Kinship
kinship_by Nothing own = Same
kinship_by (Label label) own = kin own label.tree
kinship_by Foreign own = Other

-- a store stays of the tree that its label names
abbrev pub tree_by : LabelFound → TreeMark → TreeMark
tree_by Nothing own = own
tree_by (Label label) own = label.tree
tree_by Foreign own = own

-- a label alone notes a boot
abbrev pub noted_by : LabelFound → ℕ → Option ℕ
noted_by Nothing station = None
noted_by (Label label) station = noted label station
noted_by Foreign station = None
