use Rattle.smi_tree.proofs.FileLemmas.{whole-fault}
use Rattle.smi_tree.proofs.law.a_fault_without_a_line_is_the_files.Goals as goal

pub returns : goal.returns
returns c = λ bytes code is. whole-fault bytes code is
