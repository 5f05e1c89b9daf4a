use Rattle.std.proofs.Common.{refl, arith}
use Rattle.std.proofs.lemmas.Slice.Eq.{text_from_reads}
use Rattle.std.specs.Prelude.{codes}
use Rattle.smi_schedule.proofs.words.LineWord.read.Goals as goal

pub returns-in-restart : goal.returns-in-restart
returns-in-restart c =
    rw (text_from_reads c.args.word.now (codes "restart") (omega arith)
    (omega arith, (omega arith, (omega arith, (omega arith, (omega arith, (omega arith, (omega arith, tt)))))))) refl
