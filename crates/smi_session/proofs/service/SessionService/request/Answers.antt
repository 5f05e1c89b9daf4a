use Rattle.smi_session.proofs.service.SessionService.request.Goals as goal

pub returns : goal.returns
returns g c =
    rw (← c.self.view_is, ← c.operators-operators.ensures, ← c.style.ensures) c.request_of_line.ensures
