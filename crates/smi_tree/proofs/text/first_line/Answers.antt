use Rattle.std.proofs.Common.{arith}
use Rattle.std.proofs.lemmas.Grind.{common_steps}
use Rattle.smi_tree.proofs.Cutting.{lines-front, lines-last}
use Rattle.smi_tree.proofs.text.first_line.Goals as goal

pub returns-then-end-text : goal.returns-then-end-text
returns-then-end-text c =
    let front = lines-front c.args.text.now (omega arith) in
    (grind (arith, common_steps, front), grind (arith, common_steps))

pub returns-else-is_empty : goal.returns-else-is_empty
returns-else-is_empty c = (lines-last c.args.text.now (omega arith) (grind arith), grind arith)
