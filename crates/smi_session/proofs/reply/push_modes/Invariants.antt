use Rattle.std.proofs.Common.{◌≡◌, drop}
use Rattle.smi_session.specs.Reply.{with_modes}
use Rattle.smi_session.proofs.reply.push_modes.Given as goal

-- the children that are left are still to be listed
abbrev pub invariant-loop-state : goal.invariant-loop-state
invariant-loop-state l = with_modes l.tree l.tag (drop l.state-index l.states) l.session
    ≡ with_modes l.tree l.tag l.states l.fn.session
