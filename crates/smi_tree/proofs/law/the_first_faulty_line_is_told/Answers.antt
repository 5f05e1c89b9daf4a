use Rattle.smi_tree.proofs.FileLemmas.{faulty-line}
use Rattle.smi_tree.proofs.law.the_first_faulty_line_is_told.Goals as goal

pub returns : goal.returns
returns c = λ bytes number code some is. faulty-line bytes number code some is
