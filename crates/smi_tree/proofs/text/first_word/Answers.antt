use Rattle.std.proofs.Common.{arith}
use Rattle.std.proofs.lemmas.Grind.{common_steps}
use Rattle.smi_tree.proofs.Cutting.{words-at}
use Rattle.smi_tree.proofs.text.first_word.Goals as goal

pub returns-then-not-is_at : goal.returns-then-not-is_at
returns-then-not-is_at c =
    let at = words-at c.args.line.now c.loop-start.start (omega arith) cc in
    grind (arith, common_steps, at)
