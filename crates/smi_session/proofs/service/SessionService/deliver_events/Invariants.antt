use Rattle.std.proofs.Common.{◌≡◌, drop}
use Rattle.smi_session.specs.StationEvent.{after_events}
use Rattle.smi_session.proofs.service.SessionService.deliver_events.Given as goal

-- the events that are left are still to be heard
abbrev pub invariant-loop-event : goal.invariant-loop-event
invariant-loop-event g l =
    after_events l.tree (drop l.event-index l.event-items) l.session ≡ after_events l.tree l.event-items l.fn.session
