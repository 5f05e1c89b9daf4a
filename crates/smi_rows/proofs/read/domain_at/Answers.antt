use Rattle.std.proofs.Common.{sym, ◌∙◌}
use Rattle.smi_rows.proofs.Cutting.{domain-is}
use Rattle.smi_rows.proofs.read.domain_at.Goals as goal

pub returns-clause-domain : goal.returns-clause-domain
returns-clause-domain c =
    domain-is c.args.schema c.args.bytes.now c.in_ok-standing.standing c.u16_at.result c.u16_at-count.result
    c.in_ok-links.links.items
    (sym c.standing_at.ensures ∙ c.in_ok-standing.ensures.ok_part) c.u16_at.ensures c.u16_at-count.ensures
    c.in_ok-links.ensures.links
