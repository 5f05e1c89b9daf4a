use Rattle.std.proofs.Common.{◌-◌, vec_len}
use Rattle.smi_tree.proofs.names.note.Given as goal

abbrev pub decreases-loop-likely : goal.decreases-loop-likely
decreases-loop-likely l = 1024 - vec_len l.likely
