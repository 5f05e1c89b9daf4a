use Rattle.std.proofs.Common.{◌≡◌}
use Rattle.smi_session.specs.Reply.{with_followed}
use Rattle.smi_session.proofs.reply.push_followed.Given as goal

-- the states of this many objects are told
abbrev pub invariant-loop-place : goal.invariant-loop-place
invariant-loop-place l = l.session ≡ with_followed l.tree l.picture l.place l.fn.session
