use Rattle.std.proofs.Common.{◌≡◌, true}
use Rattle.smi_session.specs.Service.{is_new}
use Rattle.smi_session.proofs.Rising.{state_recorded}
use Rattle.smi_session.proofs.service.SessionService.record_state.Goals as goal

pub invariant_of-self-2 : goal.invariant_of-self-2
invariant_of-self-2 g c =
    let new : is_new c.self.inside.picture c.args.shown ≡ true = rw (← c.self.view_is) at c.requires in
    rw (c.in_ok-push.ensures.items) (state_recorded c.self.inside.picture c.show.new.self
    c.self.inside.events.items c.args.shown new c.show.ensures c.self.invariant)
