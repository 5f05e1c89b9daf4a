use Rattle.std.proofs.Common.{ap, sym, ◌∙◌}
use Rattle.std.specs.Str.Lines.{lines}
use Rattle.smi_tree.specs.Hierarchy.{Hierarchy}
use Rattle.smi_tree.specs.File.{with_lines}
use Rattle.smi_tree.proofs.TreeLemmas.{IsTree-read}
use Rattle.smi_tree.proofs.tree.Parts.fill.Goals as goal

pub index-requires : goal.index-requires
index-requires c =
    IsTree-read (lines c.args.bytes.now) c.read_lines.new.self
    (ap (λ (h : Hierarchy). with_lines 1 h (lines c.args.bytes.now)) (sym c.requires) ∙ c.in_ok-read_lines.ensures)
    (sym c.if-not-is_complete.ensures)
