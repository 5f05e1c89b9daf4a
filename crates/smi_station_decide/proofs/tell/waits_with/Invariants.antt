use Rattle.std.proofs.Common.{◌≡◌, drop}
use Rattle.std.specs.List.{list_any}
use Rattle.smi_grant.specs.declared.Holder.TheVariants.{Domain}
use Rattle.smi_command.specs.Link.{is_unsettled}
use Rattle.smi_protocol.specs.Grants.{with_link}
use Rattle.smi_station_grants.specs.GrantTable.{grants_of}
use Rattle.smi_station_decide.proofs.tell.waits_with.Given as goal

-- no child so far has to answer
abbrev pub invariant-loop-other : goal.invariant-loop-other
invariant-loop-other l =
    list_any (λ x. is_unsettled ((with_link (grants_of l.kept) (Domain l.domain) l.child l.link).links
    (Domain l.domain) x)) (drop l.other-index l.children)
    ≡ list_any (λ x. is_unsettled ((with_link (grants_of l.kept) (Domain l.domain) l.child l.link).links
    (Domain l.domain) x)) l.children
