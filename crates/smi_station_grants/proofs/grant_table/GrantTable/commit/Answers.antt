use Rattle.std.proofs.Common.{◌≡◌, ℕ, ap, ◌∙◌}
use Rattle.smi_grant.specs.declared.Holder.TheVariants.{Domain}
use Rattle.smi_rows.specs.declared.Mode.{Mode}
use Rattle.smi_protocol.specs.Grants.{Grants, put, with_record, with_gathered, with_link}
use Rattle.smi_station_grants.specs.GrantTable.{grants_of}
use Rattle.smi_station_grants.proofs.Writes.{put_same}
use Rattle.smi_station_grants.proofs.grant_table.GrantTable.commit.Goals as goal

pub returns-in-HolderChanged-clause-grants : goal.returns-in-HolderChanged-clause-grants
returns-in-HolderChanged-clause-grants c = rw c.in-HolderChanged.is c.put_record.ensures.grants

pub returns-in-Linked-clause-grants : goal.returns-in-Linked-clause-grants
returns-in-Linked-clause-grants c = rw c.in-Linked.is c.put_operator_link.ensures.grants

pub returns-in-Ran-clause-grants : goal.returns-in-Ran-clause-grants
returns-in-Ran-clause-grants c =
    let d = c.in-Ran.domain in
    rw c.in-Ran.is
    (c.put_gathered.ensures.grants
    ∙ ap (λ (g : Grants). with_gathered g d c.in-Ran.code)
    (c.put_record-in-Ran.ensures.grants ∙ ap (λ (g : Grants). with_record g d c.in-Ran.record)
    c.command_children.ensures.grants))

pub returns-in-ChildReported-clause-grants : goal.returns-in-ChildReported-clause-grants
returns-in-ChildReported-clause-grants c =
    let p = c.in-ChildReported.parent in
    let x = c.in-ChildReported.child in
    let g = grants_of c.args.self.now in
    let same : put g.modes x c.mode-mode.result ≡ g.modes = ap (put g.modes x) c.mode-mode.ensures
    ∙ put_same g.modes x in
    rw c.in-ChildReported.is
    (c.put_gathered-in-ChildReported.ensures.grants
    ∙ ap (λ (k : Grants). with_gathered k p c.in-ChildReported.code)
    (c.put_record-in-ChildReported.ensures.grants
    ∙ ap (λ (k : Grants). with_record k p c.in-ChildReported.record)
    (c.put_child.ensures.grants
    ∙ ap (λ (t : ℕ → Mode). record (with_link g (Domain p) x c.in-ChildReported.link) { modes = t }) same)))
