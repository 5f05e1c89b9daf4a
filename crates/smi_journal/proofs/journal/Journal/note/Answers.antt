use Rattle.std.proofs.Common.{subst, sym}
use Rattle.smi_journal.specs.Noted.{NotesOne}
use Rattle.smi_journal.proofs.Telling.{step_alone}
use Rattle.smi_journal.proofs.journal.Journal.note.Goals as goal

pub returns-then-not-is_waiting : goal.returns-then-not-is_waiting
returns-then-not-is_waiting g c =
    step_alone c.args.out.now _ _
    (subst (λ z. NotesOne c.args.out.now z.notings c.skip.new.self.notings) c.self.view_is c.skip.ensures.notes)

pub returns-then-not-keep_or_write : goal.returns-then-not-keep_or_write
returns-then-not-keep_or_write g c =
    step_alone c.args.out.now _ _
    (subst (λ z. NotesOne c.args.out.now c.args.self.now.notings z.notings) (sym c.count_lost.ensures)
    c.keep_or_write.ensures)
