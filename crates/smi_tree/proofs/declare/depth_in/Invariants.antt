use Rattle.std.proofs.Common.{◌≡◌, ◌+◌, ◌-◌, length}
use Rattle.smi_tree.specs.Hierarchy.{ancestors}
use Rattle.smi_tree.proofs.declare.depth_in.Given as goal

-- the domains passed, and those still above
abbrev pub invariant-loop-above : goal.invariant-loop-above
invariant-loop-above l = l.above + length (ancestors (8 - l.above) l.domains l.at)
    ≡ length (ancestors 8 l.domains l.domain)
