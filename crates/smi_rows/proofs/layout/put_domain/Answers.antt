use Rattle.std.proofs.Common.{◌≡◌, ◌++◌, length, ap, ◌∙◌}
use Rattle.std.specs.Int.{w16, to_be_bytes}
use Rattle.smi_rows.specs.Layout.{holder_bytes, work_bytes, links_bytes}
use Rattle.smi_rows.proofs.Appended.{on_ok, four-appended}
use Rattle.smi_rows.proofs.layout.put_domain.Goals as goal

pub returns : goal.returns
returns c =
    let worked = c.put_work.new.row.items in
    let number : c.to_be_bytes.result ≡ to_be_bytes w16 (length c.args.links.now) = c.to_be_bytes.ensures in
    on_ok c.put_links.result c.put_links.ensures
    (four-appended c.args.row.now.items c.put_holder.new.row.items worked _ _
    (holder_bytes c.args.schema c.args.standing.now) (work_bytes c.args.standing.now c.args.gathered)
    (to_be_bytes w16 (length c.args.links.now)) (links_bytes c.args.links.now) c.in_ok-put_holder.ensures
    c.in_ok-put_work.ensures (c.in_ok-extend_from_slice.ensures.items ∙ ap (λ b. worked ++ b) number))
