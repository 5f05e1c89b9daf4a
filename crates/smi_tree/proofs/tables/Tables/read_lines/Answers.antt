use Rattle.std.proofs.Common.{◌+◌, sym, ◌∙◌, arith}
use Rattle.std.specs.Str.Lines.{lines}
use Rattle.smi_tree.proofs.Lines.{with_lines-none, with_lines-line, Reads-refused}
use Rattle.smi_tree.proofs.tables.Tables.read_lines.Goals as goal

pub returns-in-Err : goal.returns-in-Err
returns-in-Err c =
    rw c.at_line.ensures (Reads-refused (c.loop-cut.number + 1) c.loop-cut.self c.in-Some.cut.0.now
    (lines c.in-Some.cut.1.now)
    (lines c.loop-cut.rest.now) _ c.read_line.new.self c.in-Err.refusal c.in-Some.ensures.0 c.loop-cut.invariant.same
    c.in-Err.ensures)

pub loop-cut-preserved : goal.loop-cut-preserved
loop-cut-preserved c = record {
  same = sym (with_lines-line (c.loop-cut.number + 1) c.loop-cut.self c.read_line.new.self c.in-Some.cut.0.now
      (lines c.in-Some.cut.1.now) (lines c.loop-cut.rest.now) c.in-Some.ensures.0 c.in_default-read_line.ensures)
      ∙ c.loop-cut.invariant.same;
  counted = omega (arith, c.in-Some.ensures.1, c.loop-cut.invariant.counted);
}

pub returns : goal.returns
returns c =
    sym c.loop-cut.invariant.same ∙ with_lines-none (c.loop-cut.number + 1) c.loop-cut.self
    (lines c.loop-cut.rest.now) c.in_default.ensures
