use Rattle.std.proofs.Common.{◌≡◌, ◌++◌, drop}
use Rattle.std.specs.Prelude.{find, map}
use Rattle.smi_grant.specs.declared.Holder.TheVariants.{Operator}
use Rattle.smi_tree.specs.Lookups.{parent_of}
use Rattle.smi_protocol.specs.Hearing.{hears, parent_here}
use Rattle.smi_station_grants.specs.GrantTable.{grants_of}
use Rattle.smi_station_decide.proofs.tell.listener.Given as goal

-- no operator so far is the one
abbrev pub invariant-loop-operator : goal.invariant-loop-operator
invariant-loop-operator l =
    find (λ who. hears ((grants_of l.kept).links who l.domain) who l.news)
    (map Operator (drop l.operator-index l.operators)
    ++ parent_here l.kept.tree l.kept.number (parent_of l.kept.tree l.domain))
    ≡ find (λ who. hears ((grants_of l.kept).links who l.domain) who l.news)
    (map Operator l.operators ++ parent_here l.kept.tree l.kept.number (parent_of l.kept.tree l.domain))
