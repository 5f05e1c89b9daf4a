use Rattle.smi_command.proofs.SettledRuns.{count_seen}
use Rattle.smi_command.proofs.settlements.Settlements.len.Goals as goal

pub returns-clause-value : goal.returns-clause-value
returns-clause-value c =
    let run = c.self.inside in
    count_seen run.first run.count run.code c.args.self.now c.self.view_is
