use Rattle.std.proofs.Common.{refl, arith}
use Rattle.std.proofs.lemmas.Slice.Eq.{text_from_reads}
use Rattle.std.specs.Prelude.{codes}
use Rattle.smi_schedule.proofs.words.DeedWord.read.Goals as goal

pub returns-in-recent : goal.returns-in-recent
returns-in-recent c =
    rw (text_from_reads c.args.word.now (codes "recent") (omega arith)
    (omega arith, (omega arith, (omega arith, (omega arith, (omega arith, (omega arith, tt))))))) refl

pub returns-in-report : goal.returns-in-report
returns-in-report c =
    rw (text_from_reads c.args.word.now (codes "report") (omega arith)
    (omega arith, (omega arith, (omega arith, (omega arith, (omega arith, (omega arith, tt))))))) refl

pub returns-in-deliver : goal.returns-in-deliver
returns-in-deliver c =
    rw (text_from_reads c.args.word.now (codes "deliver") (omega arith)
    (omega arith, (omega arith, (omega arith, (omega arith, (omega arith, (omega arith, (omega arith, tt)))))))) refl
