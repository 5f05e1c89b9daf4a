use Rattle.std.proofs.Common.{refl, arith}
use Rattle.std.proofs.lemmas.Slice.Eq.{text_from_reads}
use Rattle.std.specs.Prelude.{codes}
use Rattle.smi_schedule.proofs.words.OrderWord.read.Goals as goal

pub returns-in-manual : goal.returns-in-manual
returns-in-manual c =
    rw (text_from_reads c.args.word.now (codes "manual") (omega arith)
    (omega arith, (omega arith, (omega arith, (omega arith, (omega arith, (omega arith, tt))))))) refl

pub returns-in-ignore : goal.returns-in-ignore
returns-in-ignore c =
    rw (text_from_reads c.args.word.now (codes "ignore") (omega arith)
    (omega arith, (omega arith, (omega arith, (omega arith, (omega arith, (omega arith, tt))))))) refl

pub returns-in-include : goal.returns-in-include
returns-in-include c =
    rw (text_from_reads c.args.word.now (codes "include") (omega arith)
    (omega arith, (omega arith, (omega arith, (omega arith, (omega arith, (omega arith, (omega arith, tt)))))))) refl

pub returns-in-exclude : goal.returns-in-exclude
returns-in-exclude c =
    rw (text_from_reads c.args.word.now (codes "exclude") (omega arith)
    (omega arith, (omega arith, (omega arith, (omega arith, (omega arith, (omega arith, (omega arith, tt)))))))) refl

pub returns-in-unwatch : goal.returns-in-unwatch
returns-in-unwatch c =
    rw (text_from_reads c.args.word.now (codes "unwatch") (omega arith)
    (omega arith, (omega arith, (omega arith, (omega arith, (omega arith, (omega arith, (omega arith, tt)))))))) refl
