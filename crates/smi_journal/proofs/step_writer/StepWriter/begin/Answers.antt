use Rattle.std.proofs.Common.{[], ap, ◌∙◌}
use Rattle.std.specs.Prelude.{option_map, unwrap_or}
use Rattle.smi_journal.specs.declared.notes.Noting.TheVariants as noting
use Rattle.smi_journal.proofs.Telling.{begun_one}
use Rattle.smi_journal.proofs.step_writer.StepWriter.begin.Goals as goal

pub returns-clause-begun : goal.returns-clause-begun
returns-clause-begun g c = λ ok.
    begun_one c.args.opening.now.items (noting.Begins c.of-opened.result) _ _ c.args.self.now.notings
    (ap (λ z. z.items) c.of-opened.ensures) c.then.ensures
    (ap (λ z. unwrap_or (option_map (λ last. last.value) z) []) c.take.ensures.value
    ∙ ap (λ z. z.notings) c.self.view_is)
