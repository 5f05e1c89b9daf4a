use Rattle.smi_session.specs.Session.{OnlyReplies}
use Rattle.smi_session.proofs.reply.push_help.Given as goal

abbrev pub invariant-loop-line : goal.invariant-loop-line
invariant-loop-line l = OnlyReplies l.fn.session l.session
