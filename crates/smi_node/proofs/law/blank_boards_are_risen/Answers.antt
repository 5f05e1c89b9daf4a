use Rattle.smi_node.proofs.Rising.{blank}
use Rattle.smi_node.proofs.law.blank_boards_are_risen.Goals as goal

pub returns : goal.returns
returns g c = λ is shown. blank shown c.args.board.now is
