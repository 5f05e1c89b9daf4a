use Rattle.smi_tree.proofs.FileLemmas.{accepted}
use Rattle.smi_tree.proofs.law.tree_files_are_accepted.Goals as goal

pub returns : goal.returns
returns c = λ bytes h. accepted bytes h
