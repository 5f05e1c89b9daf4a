use Rattle.std.proofs.Common.{◌∙◌, Some, None, ap}
use Rattle.smi_rows.specs.declared.Mode.{Mode}
use Rattle.smi_protocol.specs.Children.{mode_after}
use Rattle.smi_station_grants.specs.Children.{meant}
use Rattle.smi_station_grants.specs.GrantTable.{grants_of}
use Rattle.smi_station_grants.proofs.KnownChildren.{mode_known}
use Rattle.smi_station_grants.proofs.grant_table.GrantTable.mode_commanded.Goals as goal

pub returns-in-Some : goal.returns-in-Some
returns-in-Some c = λ d command so.
    c.mode_after.ensures
    ∙ ap (λ (m : Mode). mode_after (meant c.in-Some.change) m) c.mode-mode.ensures
    ∙ mode_known c.args.self.now.tree (grants_of c.args.self.now) d command c.args.known.now c.args.child so
    (Some c.in-Some.change) c.in-Some.ensures

pub returns-in-None : goal.returns-in-None
returns-in-None c = λ d command so.
    c.mode-mode.ensures
    ∙ mode_known c.args.self.now.tree (grants_of c.args.self.now) d command c.args.known.now c.args.child so None
    c.in-None.ensures
