use Rattle.std.proofs.Common.{inl}
use Rattle.smi_world.proofs.Acts.{on_err}
use Rattle.smi_world.proofs.turning.make_part.Goals as goal

pub returns-in-Come-clause-halts : goal.returns-in-Come-clause-halts
returns-in-Come-clause-halts c = λ h number s is. on_err c.arrive.result (c.arrive.ensures.same h number s is)
    (λ same. inl same)

pub returns-in-Start-clause-halts : goal.returns-in-Start-clause-halts
returns-in-Start-clause-halts c = λ h number s is. on_err c.restart.result (c.restart.ensures.same h number s is)
    (λ same. inl same)

pub returns-in-Fail-clause-halts : goal.returns-in-Fail-clause-halts
returns-in-Fail-clause-halts c = λ h number s is. on_err c.fail.result (c.fail.ensures.same h number s is)
    (λ same. inl same)
