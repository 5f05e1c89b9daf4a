use Rattle.smi_tree.proofs.Grouping.{SoFar}
use Rattle.smi_tree.proofs.groups.grouped.Given as goal

-- the groups so far, and the rows that are left
abbrev pub invariant-loop-place : goal.invariant-loop-place
invariant-loop-place g l = SoFar g.T.Belongs.belongs l.owners l.rows l.place l.groups.items
