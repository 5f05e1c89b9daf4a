use Rattle.std.proofs.Common.{List, ap, ◌∙◌}
use Rattle.smi_tree.specs.Lookups.{children_of}
use Rattle.smi_rows.specs.declared.StoredLink.{StoredLink}
use Rattle.smi_protocol.specs.Grants.{Grants, with_gathered, with_record}
use Rattle.smi_station_grants.specs.GrantTable.{grants_of}
use Rattle.smi_station_grants.specs.Restored.{with_children, with_domain}
use Rattle.smi_station_grants.proofs.Restoring.{domain_restored}
use Rattle.smi_station_grants.proofs.grant_table.GrantTable.restore_domain.Goals as goal

pub returns-clause-grants : goal.returns-clause-grants
returns-clause-grants c =
    let h = c.args.self.now.tree in
    let g = grants_of c.args.self.now in
    let d = c.args.domain in
    let row = c.row.inside in
    c.put_gathered.ensures.grants
    ∙ ap (λ (k : Grants). with_gathered k d row.gathered) c.put_record.ensures.grants
    ∙ ap (λ (k : Grants). with_gathered (with_record k d row.standing) d row.gathered) c.restore_children.ensures.grants
    ∙ ap (λ (xs : List StoredLink). with_gathered
    (with_record (with_children g d xs (children_of h d)) d row.standing) d row.gathered) c.deref.ensures.value
    ∙ domain_restored h g d (record { standing = row.standing; gathered = row.gathered; links = row.links.items })
    ∙ ap (with_domain h g d) c.row.view_is
