use Rattle.std.proofs.Common.{◌∙◌, Some, None}
use Rattle.smi_station_decide.proofs.Left.{left_at}
use Rattle.smi_station_decide.proofs.run.at_target.Goals as goal

pub returns-in-Some : goal.returns-in-Some
returns-in-Some c = λ h g command so.
    c.child_changed.ensures
    ∙ left_at h g c.args.domain command c.args.known.now c.args.target so (Some c.in-Some.change) c.in-Some.ensures

pub returns-in-None : goal.returns-in-None
returns-in-None c = λ h g command so.
    left_at h g c.args.domain command c.args.known.now c.args.target so None c.in-None.ensures
