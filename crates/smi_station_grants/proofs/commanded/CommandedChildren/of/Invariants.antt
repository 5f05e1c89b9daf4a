use Rattle.std.proofs.Common.{◌≡◌, drop}
use Rattle.std.specs.Prelude.{◌==◌}
use Rattle.std.specs.List.{find}
use Rattle.smi_station_grants.specs.declared.commanded.CommandedChild.{CommandedChild}
use Rattle.smi_station_grants.proofs.commanded.CommandedChildren.of.Given as goal

-- none so far is that child
abbrev pub invariant-loop-one : goal.invariant-loop-one
invariant-loop-one l =
    find (λ (y : CommandedChild). y.child == l.child) (drop l.one-index l.one-items)
    ≡ find (λ (y : CommandedChild). y.child == l.child) l.one-items
