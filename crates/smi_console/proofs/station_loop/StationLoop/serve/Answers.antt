use Rattle.smi_console.proofs.station_loop.StationLoop.serve.Goals as goal

-- the plan has the turns and the operators that it was made of
pub returns : goal.returns
returns g c =
    (_, _, _, _, rw (c.plan_of-plan.ensures.turns, c.plan_of-plan.ensures.operators) at c.serve_parts.ensures)
