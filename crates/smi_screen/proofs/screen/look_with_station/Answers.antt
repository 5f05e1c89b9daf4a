use Rattle.std.proofs.Common.{◌≡◌, ◌∙◌, ap, inl}
use Rattle.smi_screen.proofs.screen.look_with_station.Goals as goal

-- the server looks in the name that it was built with
pub returns : goal.returns
returns g c =
    let server = c.deref_mut.result.now in
    let same : server.operator ≡ c.in-Some.operator =
    ap (λ x. x.operator) c.deref_mut.ensures.value ∙ c.in_ok-server.ensures.operator in
    rw (← c.first_operator.ensures, c.in-Some.is) (inl (_, _, _, _, rw same at c.serve.ensures.turns))
