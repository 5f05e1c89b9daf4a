use Rattle.std.proofs.Common.{◌∷◌, [], length, refl, ap, sym, ◌∙◌, arith, length-append}
use Rattle.smi_rows.proofs.Cutting.{cut-whole, cut-rest, one-link, no-link}
use Rattle.smi_rows.proofs.read.links_at.Goals as goal

pub link_at-requires : goal.link_at-requires
link_at-requires c = cut-whole c.args.schema c.args.count c.loop-i.i c.loop-i.rest.now (omega arith)
    c.loop-i.invariant.cut

pub size_at-requires : goal.size_at-requires
size_at-requires c = cut-whole c.args.schema c.args.count c.loop-i.i c.loop-i.rest.now (omega arith)
    c.loop-i.invariant.cut

pub returns-in-None-clause-links : goal.returns-in-None-clause-links
returns-in-None-clause-links c =
    rw c.from-in-None.ensures (
      sym c.loop-i.invariant.same
          ∙ no-link c.args.schema c.loop-i.links.items c.args.count c.loop-i.i c.loop-i.rest.now (omega arith)
          c.in-None.ensures,
      refl,
    )

pub loop-i-preserved : goal.loop-i-preserved
loop-i-preserved c =
    let links = c.loop-i.links.items in
    let pushed = c.in_ok-extend_from_slice-in-Some.ensures.items in
    record {
      cut = cut-rest c.args.schema c.args.count c.loop-i.i c.loop-i.rest.now c.size_at.result (omega arith)
          c.size_at.ensures.size c.loop-i.invariant.cut;
      same = one-link c.args.schema links _ c.args.count c.loop-i.i c.loop-i.rest.now c.size_at.result
          c.in-Some.stored (omega arith) c.size_at.ensures.size pushed c.in-Some.ensures ∙ c.loop-i.invariant.same;
      counted = let l = ap length pushed ∙ length-append links (c.in-Some.stored ∷ []) in
          omega (arith, c.loop-i.invariant.counted);
    }
