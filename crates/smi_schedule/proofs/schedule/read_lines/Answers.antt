use Rattle.std.proofs.Common.{List, ◌+◌, ◌++◌, sym, ◌∙◌, ap, append_assoc, arith}
use Rattle.std.specs.Option.{option_to_list}
use Rattle.std.specs.Str.Lines.{lines}
use Rattle.std.proofs.lemmas.Result.{err_from_is_err_and}
use Rattle.std.specs.Global.{Vec}
use Rattle.smi_protocol.specs.declared.item.Item.{Item}
use Rattle.smi_schedule.specs.Schedule.{items_before_fault}
use Rattle.smi_schedule.proofs.LineByLine.{items-line, fault-line, refused, ended}
use Rattle.smi_schedule.proofs.schedule.read_lines.Goals as goal

pub returns-in_err-read_line : goal.returns-in_err-read_line
returns-in_err-read_line c =
    let p = err_from_is_err_and c.from_residual.result c.from_residual.ensures.1 in
    rw (p.1, p.2)
    (refused (Unit {0}) (λ (v : Vec Item). v.items) (c.loop-cut.number + 1) c.args.tree.now c.in-Some.cut.0.now
    (lines c.in-Some.cut.1.now) (lines c.loop-cut.rest.now) (lines c.args.bytes.now)
    c.loop-cut.items.items c.read_line.new.items.items _ c.in-Some.ensures.0 c.loop-cut.invariant.fault
    c.in_err-read_line.ensures)

pub loop-cut-preserved : goal.loop-cut-preserved
loop-cut-preserved c =
    let added = c.in_ok-read_line.ensures in
    record {
      items = ap (λ (xs : List Item). xs ++ items_before_fault c.args.tree.now (lines c.in-Some.cut.1.now)) added.2
          ∙ append_assoc c.loop-cut.items.items (option_to_list added.0)
          (items_before_fault c.args.tree.now (lines c.in-Some.cut.1.now))
          ∙ ap (λ (xs : List Item). c.loop-cut.items.items ++ xs)
          (sym (items-line c.args.tree.now c.in-Some.cut.0.now (lines c.in-Some.cut.1.now)
          (lines c.loop-cut.rest.now) added.0 c.in-Some.ensures.0 added.1))
          ∙ c.loop-cut.invariant.items;
      fault = sym (fault-line (c.loop-cut.number + 1) c.args.tree.now c.in-Some.cut.0.now (lines c.in-Some.cut.1.now)
          (lines c.loop-cut.rest.now) added.0 c.in-Some.ensures.0 added.1)
          ∙ c.loop-cut.invariant.fault;
      counted = omega (arith, c.in-Some.ensures.1, c.loop-cut.invariant.counted);
    }

pub returns : goal.returns
returns c = ended (c.loop-cut.number + 1) c.args.tree.now (lines c.loop-cut.rest.now) (lines c.args.bytes.now)
    c.loop-cut.items.items c.in_default.ensures c.loop-cut.invariant.items c.loop-cut.invariant.fault
