use Rattle.smi_watchers.proofs.Leaving.{NoneBelow}
use Rattle.smi_watchers.proofs.watchers.Watchers.drop.Given as goal

abbrev pub invariant-loop-number : goal.invariant-loop-number
invariant-loop-number l = NoneBelow l.number l.self.lists
