use Rattle.std.proofs.Common.{Some, sym, ◌∙◌}
use Rattle.smi_world.proofs.Turns.{fails_there}
use Rattle.smi_world.proofs.task.fails.Goals as goal

pub returns-in-Some-clause-task : goal.returns-in-Some-clause-task
returns-in-Some-clause-task c = λ h w. fails_there h w c.args.station c.args.how c.args.arrival (Some c.in-Some.what)
    (sym c.in-Some.is ∙ c.coming_to.ensures)
