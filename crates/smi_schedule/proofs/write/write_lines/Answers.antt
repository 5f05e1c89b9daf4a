use Rattle.std.proofs.Common.{◌≡◌, suc, List, Err, ◌++◌, take, drop, subst, sym, ap, ◌∙◌}
use Rattle.std.proofs.lemmas.List.{take_all}
use Rattle.std.proofs.lemmas.Result.{err_from_is_err_and}
use Rattle.std.specs.Io.KnownBytes.{Appends}
use Rattle.smi_protocol.specs.declared.item.Line.{Line}
use Rattle.smi_schedule.specs.declared.write.Unwritten.TheVariants as unwritten
use Rattle.smi_schedule.specs.Text.{line_text, trace_text}
use Rattle.smi_schedule.proofs.Prefixes.{prefix_more, prefix_all, flat_map_at}
use Rattle.smi_schedule.proofs.write.write_lines.Goals as goal

pub returns-in_err-write_line-clause-prefix : goal.returns-in_err-write_line-clause-prefix
returns-in_err-write_line-clause-prefix g c =
    let contents = g.W.Write.contents in
    let tree = c.args.tree.now in
    let i = c.loop-line.line-index in
    let lines = c.args.lines.now in
    prefix_more (contents c.args.writer.now) (contents c.loop-line.writer) (contents c.write_line.new.writer)
    (trace_text tree (take i lines)) (line_text tree c.line-item.result) (trace_text tree (drop (suc i) lines))
    (trace_text tree lines) c.write_line.ensures.prefix.0
    (flat_map_at (line_text tree) lines i c.line-item.result c.loop-line-test.true
    ∙ ap (λ (x : Line). trace_text tree (take i lines) ++ (line_text tree x ++ trace_text tree (drop (suc i) lines)))
    (sym c.line-item.is))
    c.loop-line.invariant c.write_line.ensures.prefix.1

pub returns-clause-prefix : goal.returns-clause-prefix
returns-clause-prefix g c =
    let contents = g.W.Write.contents in
    prefix_all (contents c.args.writer.now) (contents c.loop-line.writer) (trace_text c.args.tree.now c.args.lines.now)
    (subst (λ (t : List Line). Appends (contents c.args.writer.now) (contents c.loop-line.writer)
    (trace_text c.args.tree.now t)) (take_all c.loop-line.line-index c.args.lines.now c.loop-line-test.false)
    c.loop-line.invariant)

pub returns-in_err-write_line-clause-memory : goal.returns-in_err-write_line-clause-memory
returns-in_err-write_line-clause-memory g c = λ h.
    let contents = g.W.Write.contents in
    let p = err_from_is_err_and c.from_residual.result c.from_residual.ensures.1 in
    let was : c.write_line.result ≡ Err unwritten.Memory = cc (p.1, p.2, c.in_err-write_line.was, h) in (
      c.loop-line.line-index,
      subst (λ (w : g.row.W.Denot). Appends (contents c.args.writer.now) (contents w)
          (trace_text c.args.tree.now (take c.loop-line.line-index c.args.lines.now)))
          (sym (c.write_line.ensures.memory was)) c.loop-line.invariant,
    )
