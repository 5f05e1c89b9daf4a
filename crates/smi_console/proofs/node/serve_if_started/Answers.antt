use Rattle.smi_console.proofs.node.serve_if_started.Goals as goal

-- the seats are those of the station's operators
pub returns-in_ok-seats-in-Ok : goal.returns-in_ok-seats-in-Ok
returns-in_ok-seats-in-Ok g c =
    rw (c.as_slice.ensures.value, c.in_ok-seats-in-Ok.ensures, c.operators.ensures) at c.serve.ensures
