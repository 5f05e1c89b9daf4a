use Rattle.smi_tree.specs.Grouped.{IsEmpty}
use Rattle.smi_tree.proofs.groups.empty_groups.Given as goal

-- the owners so far have groups
abbrev pub invariant-loop-owner : goal.invariant-loop-owner
invariant-loop-owner l = IsEmpty l.owner l.groups.items
