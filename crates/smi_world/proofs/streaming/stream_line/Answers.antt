use Rattle.std.proofs.Common.{ℕ, Ok, Option, Result, take, ap, sym, subst, ◌∙◌}
use Rattle.std.specs.Io.KnownBytes.{Appends}
use Rattle.smi_tree.specs.Hierarchy.{Hierarchy}
use Rattle.smi_tree.specs.declared.fault.Fault.{Fault}
use Rattle.smi_protocol.specs.declared.item.Item.{Item}
use Rattle.smi_schedule.specs.Line.{item_in}
use Rattle.smi_schedule.proofs.NamedItems.{read_named}
use Rattle.smi_schedule.specs.Text.{trace_text}
use Rattle.smi_world.specs.Streaming.{lines_after}
use Rattle.smi_world.proofs.streaming.stream_line.Goals as goal

pub write_item-requires : goal.write_item-requires
write_item-requires g c =
    let h = c.args.world.now.tree in
    let same = ap (λ (t : Hierarchy). item_in t c.args.line.now) c.tree.ensures.tree in
    read_named h c.args.line.now c.in-Ok-Some.item
    (sym same ∙ sym c.read_item.ensures ∙ c.in-Ok-Some.is ∙ ap Ok c.in-Ok-Some.field-0-is)

pub returns-in-Ok-clause-prefix : goal.returns-in-Ok-clause-prefix
returns-in-Ok-clause-prefix g c = λ w is.
    let contents = g.W.Write.contents in
    let h = c.args.world.now.tree in
    let same = ap (λ (t : Hierarchy). item_in t c.args.line.now) c.tree.ensures.tree in
    let e = sym same ∙ sym c.read_item.ensures ∙ c.in-Ok-Some.is ∙ ap Ok c.in-Ok-Some.field-0-is in
    subst (λ (r : Result (Option Item) Fault). (n : ℕ)
    × Appends (contents c.args.writer.now) (contents c.write_item.new.writer)
    (take n (trace_text h (lines_after h w r)))) (sym e) (c.write_item.ensures.prefix w is)

pub returns-in-Err-write_item-clause-prefix : goal.returns-in-Err-write_item-clause-prefix
returns-in-Err-write_item-clause-prefix g c = λ w is.
    let contents = g.W.Write.contents in
    let h = c.args.world.now.tree in
    let same = ap (λ (t : Hierarchy). item_in t c.args.line.now) c.tree.ensures.tree in
    let e = sym same ∙ sym c.read_item.ensures ∙ c.in-Ok-Some.is ∙ ap Ok c.in-Ok-Some.field-0-is in
    subst (λ (r : Result (Option Item) Fault). (n : ℕ)
    × Appends (contents c.args.writer.now) (contents c.write_item.new.writer)
    (take n (trace_text h (lines_after h w r)))) (sym e) (c.write_item.ensures.prefix w is)
