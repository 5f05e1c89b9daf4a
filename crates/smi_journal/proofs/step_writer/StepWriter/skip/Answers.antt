use Rattle.std.proofs.Common.{[], ap, ◌∙◌}
use Rattle.std.specs.Prelude.{option_map, unwrap_or}
use Rattle.smi_journal.specs.declared.notes.Noting.TheVariants as noting
use Rattle.smi_journal.proofs.Telling.{noted_one}
use Rattle.smi_journal.proofs.step_writer.StepWriter.skip.Goals as goal

pub returns-clause-notes : goal.returns-clause-notes
returns-clause-notes g c =
    noted_one c.args.out.now (noting.Skips c.of-handed.result) _ _
    c.args.self.now.notings c.of-handed.ensures c.then.ensures
    (ap (λ z. unwrap_or (option_map (λ last. last.value) z) []) c.take.ensures.value
    ∙ ap (λ z. z.notings) c.self.view_is)
