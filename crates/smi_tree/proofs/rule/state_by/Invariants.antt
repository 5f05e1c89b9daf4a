use Rattle.std.proofs.Common.{◌≡◌, drop}
use Rattle.smi_tree.specs.Rules.{state_by}
use Rattle.smi_tree.proofs.rule.state_by.Given as goal

-- no rule so far holds
abbrev pub invariant-loop-rule : goal.invariant-loop-rule
invariant-loop-rule l = state_by (drop l.rule-index l.rules) l.old l.members ≡ state_by l.rules l.old l.members
