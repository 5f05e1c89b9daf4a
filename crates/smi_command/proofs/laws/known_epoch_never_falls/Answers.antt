use Rattle.smi_command.proofs.Epochs.{known_taken, known_commanded, known_dropped, known_told, told_within}
use Rattle.smi_command.proofs.laws.known_epoch_never_falls.Goals as goal

pub returns-clause-taken : goal.returns-clause-taken
returns-clause-taken c = known_taken

pub returns-clause-commanded : goal.returns-clause-commanded
returns-clause-commanded c = known_commanded

pub returns-clause-dropped : goal.returns-clause-dropped
returns-clause-dropped c = known_dropped

pub returns-clause-told : goal.returns-clause-told
returns-clause-told c = known_told

pub returns-clause-within : goal.returns-clause-within
returns-clause-within c = told_within
