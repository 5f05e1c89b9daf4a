use Rattle.std.proofs.Common.{rules, ◌≡◌, ◌∙◌, Some, None, ap, sym, subst}
use Rattle.smi_grant.specs.declared.Holder.{Holder}
use Rattle.smi_grant.specs.declared.Holder.TheVariants.{Domain}
use Rattle.smi_command.specs.declared.Link.{Link}
use Rattle.smi_protocol.specs.Children.{link_after}
use Rattle.smi_protocol.specs.Keeping.{commanded}
use Rattle.smi_station_grants.specs.Children.{meant}
use Rattle.smi_station_grants.specs.GrantTable.{grants_of}
use Rattle.smi_station_grants.proofs.KnownChildren.{link_by, link_known}
use Rattle.smi_station_grants.proofs.grant_table.GrantTable.link_commanded.Goals as goal

pub returns-in-Some : goal.returns-in-Some
returns-in-Some c = λ command so.
    let k = c.args.self.now in
    let g = grants_of k in
    let is : c.args.holder ≡ Domain c.args.domain = search rules in
    c.link_after.ensures
    ∙ ap (λ (l : Link). link_after (meant c.in-Some.change) l) c.link-link.ensures
    ∙ subst (λ (who : Holder). link_by (Some c.in-Some.change) (g.links who c.args.child)
    ≡ (commanded k.tree g c.args.domain command).links who c.args.child) (sym is)
    (link_known k.tree g c.args.domain command c.args.known.now c.args.child so (Some c.in-Some.change)
    c.in-Some.ensures)

pub returns-in-None : goal.returns-in-None
returns-in-None c = λ command so.
    let k = c.args.self.now in
    let g = grants_of k in
    let is : c.args.holder ≡ Domain c.args.domain = search rules in
    c.link-link.ensures
    ∙ subst (λ (who : Holder). link_by None (g.links who c.args.child)
    ≡ (commanded k.tree g c.args.domain command).links who c.args.child) (sym is)
    (link_known k.tree g c.args.domain command c.args.known.now c.args.child so None c.in-None.ensures)
