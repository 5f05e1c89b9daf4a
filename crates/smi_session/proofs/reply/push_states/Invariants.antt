use Rattle.std.proofs.Common.{◌≡◌, ◌≤◌}
use Rattle.smi_session.specs.Reply.{states_known, with_states}
use Rattle.smi_session.proofs.reply.push_states.Given as goal

-- the states of this many objects are listed and counted
abbrev pub invariant-loop-place : goal.invariant-loop-place
invariant-loop-place l =
    (l.session ≡ with_states l.tree l.tag l.picture l.place l.fn.session)
    × (l.count ≡ states_known l.picture l.place) × (l.count ≤ l.place)
