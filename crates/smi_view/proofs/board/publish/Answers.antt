use Rattle.std.proofs.Common.{ap, sym, ◌∙◌}
use Rattle.smi_view.specs.declared.page.CopyMeaning.{CopyMeaning}
use Rattle.smi_view.specs.Entries.{entries_of}
use Rattle.smi_view.proofs.Naming.{finds}
use Rattle.smi_view.proofs.board.publish.Goals as goal

pub publish_as-requires : goal.publish_as-requires
publish_as-requires g c next is =
    finds _ _ c.args.writer.desk.shown.value next
    (ap (λ (p : CopyMeaning). p.entries) is
    ∙ (c.requires.entries ∙ sym (ap (λ (p : CopyMeaning). entries_of p.rows) is)))
    (ap (λ (p : CopyMeaning). p.name) is ∙ c.requires.name)
