use Rattle.std.proofs.Common.{[], ap, ◌∙◌}
use Rattle.std.specs.Prelude.{option_map, unwrap_or}
use Rattle.smi_journal.specs.declared.notes.Noting.TheVariants as noting
use Rattle.smi_journal.proofs.Telling.{noted_one}
use Rattle.smi_journal.proofs.step_writer.StepWriter.keep.Goals as goal

pub returns-in_default-clause-notes : goal.returns-in_default-clause-notes
returns-in_default-clause-notes g c =
    noted_one c.args.out.now (noting.Loses c.of-handed.result) _ _
    c.args.self.now.notings c.of-handed.ensures c.then.ensures
    (ap (λ z. unwrap_or (option_map (λ last. last.value) z) []) c.take-in_default.ensures.value
    ∙ ap (λ z. z.notings) c.self.view_is)

pub returns-then-is_err-clause-notes : goal.returns-then-is_err-clause-notes
returns-then-is_err-clause-notes g c =
    noted_one c.args.out.now (noting.Loses c.of-handed.result) _ _
    c.args.self.now.notings c.of-handed.ensures c.then-then-is_err.ensures
    (ap (λ z. unwrap_or (option_map (λ last. last.value) z) []) c.take-then-is_err.ensures.value
    ∙ ap (λ z. z.notings) c.self.view_is)

pub returns-clause-notes : goal.returns-clause-notes
returns-clause-notes g c =
    noted_one c.args.out.now (noting.Keeps c.of-typed.result c.of-prefix.result c.of-handed.result) _ _
    c.args.self.now.notings c.of-handed.ensures c.then-2.ensures
    (ap (λ z. unwrap_or (option_map (λ last. last.value) z) []) c.take-2.ensures.value
    ∙ ap (λ z. z.notings) c.self.view_is)
