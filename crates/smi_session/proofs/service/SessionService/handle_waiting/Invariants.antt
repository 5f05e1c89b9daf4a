use Rattle.smi_session.specs.Handling.{HandlesSoMany}
use Rattle.smi_session.proofs.service.SessionService.handle_waiting.Given as goal

-- this many lines are attended to
abbrev pub invariant-loop : goal.invariant-loop
invariant-loop g l = HandlesSoMany l.tree l.now l.counter l.fn.self l.fn.session l.self l.session
