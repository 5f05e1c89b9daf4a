-- The same lists, with their lengths.
use Rattle.std.proofs.Common.{true, false}
use Rattle.smi_law.proofs.Numbers.{changes_few}
use Rattle.smi_law.proofs.Rests.{goes_to_rest, settling, starts_to_rest}
use Rattle.smi_law.proofs.rest.a_bounded_number.Goals as goal

pub returns-clause-starting : goal.returns-clause-starting
returns-clause-starting c = λ h past w tree run boots. settling true h w _ (starts_to_rest h tree past w run boots)

pub returns-clause-without : goal.returns-clause-without
returns-clause-without c = λ h past w tree run runs changes.
    settling false h w _ (goes_to_rest h tree past w run runs changes)

pub returns-clause-room : goal.returns-clause-room
returns-clause-room c = λ h past w tree run. changes_few h tree past w run
