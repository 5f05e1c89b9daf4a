use Rattle.std.proofs.Common.{refl, arith}
use Rattle.std.proofs.lemmas.Slice.Eq.{text_from_reads}
use Rattle.std.specs.Prelude.{codes}
use Rattle.smi_schedule.proofs.words.moment_of.Goals as goal

pub returns-in-before : goal.returns-in-before
returns-in-before c =
    rw (text_from_reads c.args.word.now (codes "before") (omega arith)
    (omega arith, (omega arith, (omega arith, (omega arith, (omega arith, (omega arith, tt))))))) refl
