use Rattle.std.proofs.Common.{ℕ, List, ◌++◌, take, ap, subst, ◌∙◌}
use Rattle.std.specs.Io.KnownBytes.{Appends}
use Rattle.smi_tree.specs.Hierarchy.{Hierarchy}
use Rattle.smi_protocol.specs.declared.item.Line.{Line}
use Rattle.smi_protocol.specs.Schedule.{lines_of, turn}
use Rattle.smi_schedule.specs.Text.{trace_text}
use Rattle.smi_world.proofs.streaming.write_item.Goals as goal

pub returns-in-Ok-clause-prefix : goal.returns-in-Ok-clause-prefix
returns-in-Ok-clause-prefix g c = λ w is.
    let contents = g.W.Write.contents in
    let h = c.args.world.now.tree in
    let made = lines_of w (turn h w c.args.item.now) in
    let prefix = c.write_lines.ensures.prefix in
    let text =
    ap (λ (t : Hierarchy). trace_text t c.as_slice.result.now) (c.tree.ensures.tree ∙ c.act_into.ensures.tree)
    ∙ ap (trace_text h) (c.as_slice.ensures.value ∙ c.in-Ok.ensures.lines w is
    ∙ ap (λ (ls : List Line). ls ++ made) c.clear.ensures.items) in (
      prefix.0,
      subst (λ (t : List ℕ). Appends (contents c.args.writer.now) (contents c.write_lines.new.writer)
          (take prefix.0 t)) text prefix.1,
    )
