use Rattle.std.proofs.Common.{◌≡◌, ◌-◌}
use Rattle.smi_tree.specs.Lookups.{towards}
use Rattle.smi_tree.proofs.lookup.towards.Given as goal

-- from here on the way is the same
abbrev pub invariant-loop : goal.invariant-loop
invariant-loop l = towards (8 - l.counter) l.domains l.domain l.at ≡ towards 8 l.domains l.domain l.target
