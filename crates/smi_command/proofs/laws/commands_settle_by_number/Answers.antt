use Rattle.smi_command.specs.Hearing.{settled_count}
use Rattle.smi_command.proofs.EndedNumbers.{settles_where, settles_with}
use Rattle.smi_command.proofs.Waiting.{at_drop}
use Rattle.smi_command.proofs.laws.commands_settle_by_number.Goals as goal

pub returns-clause-settles : goal.returns-clause-settles
returns-clause-settles c = settles_where

pub returns-clause-code : goal.returns-clause-code
returns-clause-code c = settles_with

pub returns-clause-stays : goal.returns-clause-stays
returns-clause-stays c = λ n i p r. at_drop (settled_count n p r) p i
