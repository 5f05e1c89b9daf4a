use Rattle.std.proofs.Common.{rules}
use Rattle.smi_command.proofs.SettledRuns.{same_runs}
use Rattle.smi_command.proofs.settlements.SettlementsPartialEq.eq.Goals as goal

pub returns : goal.returns
returns c =
    same_runs _ _ _ _ _ _ _ _ _ _ _ c.eq.ensures c.and_eq.ensures c.and_eq-2.ensures (search rules) (search rules)
    (search rules) (search rules)
