use Rattle.smi_command.specs.OneLink.{reached}
use Rattle.smi_command.proofs.OneLinkKept.{reached_well, grant_known, grant_in_step, run_sent}
use Rattle.smi_command.proofs.laws.one_link_and_its_keeper.Goals as goal

pub returns-clause-known : goal.returns-clause-known
returns-clause-known c = λ me events party.
    let p = reached me events in
    grant_known p.kept me p.link (reached_well me events party).fits.link

pub returns-clause-in_step : goal.returns-clause-in_step
returns-clause-in_step c = λ me events e n cs party is.
    let p = reached me events in
    grant_in_step p.kept me p.link e n cs (reached_well me events party).fits.link is

pub returns-clause-in_order : goal.returns-clause-in_order
returns-clause-in_order c = λ me events party. (reached_well me events party).runs.in_order

pub returns-clause-as_issued : goal.returns-clause-as_issued
returns-clause-as_issued c = λ me events party. (reached_well me events party).runs.as_issued

pub returns-clause-sent : goal.returns-clause-sent
returns-clause-sent c = λ me events e n k party a.
    let p = reached me events in
    run_sent p.kept me p.link p.sent e n k (reached_well me events party).fits a

pub returns-clause-lawful : goal.returns-clause-lawful
returns-clause-lawful c = λ me events party. (reached_well me events party).fits.lawful
