-- The end of a file.
use Rattle.std.proofs.Common.{◌≡◌, Ok, Err, Result, true, false, refl, ap, ◌∙◌}
use Rattle.smi_tree.specs.Hierarchy.{Hierarchy}
use Rattle.smi_tree.specs.File.{ended, is_complete, at_line, Reads}
use Rattle.smi_tree.specs.declared.fault.Fault.TheVariants as faults
use Rattle.smi_tree.specs.declared.fault.TreeFault.{TreeFault}
use Rattle.smi_tree.specs.declared.fault.TreeFault.TheVariants.{Line, Memory}

pub Reads-ended : (fault : TreeFault) (reading : Result Hierarchy TreeFault) → Reads (Err fault) reading
    → Reads (Err fault) (ended reading)
Reads-ended Memory reading h = tt
Reads-ended (Line number code) reading h = ap ended h

pub ended-complete : (h : Hierarchy) (reading : Result Hierarchy TreeFault) → reading ≡ Ok h → is_complete h ≡ true
    → ended reading ≡ Ok h
ended-complete h reading is all = ap ended is ∙ rw all refl

pub ended-incomplete : (h : Hierarchy) (reading : Result Hierarchy TreeFault) → reading ≡ Ok h → is_complete h ≡ false →
    ended reading ≡ Err (at_line 0 faults.Incomplete)
ended-incomplete h reading is some = ap ended is ∙ rw some refl
