use Rattle.std.proofs.Common.{◌≡◌, drop}
use Rattle.smi_session.specs.Reply.{listed_beside, with_queues}
use Rattle.smi_session.proofs.reply.push_queues.Given as goal

-- the queues that are left are still to be listed and counted
abbrev pub invariant-loop-queue : goal.invariant-loop-queue
invariant-loop-queue l =
    (with_queues l.tree l.tag l.now (drop l.queue-index l.queues) l.session
    ≡ with_queues l.tree l.tag l.now l.queues l.fn.session)
    × (listed_beside l.count (drop l.queue-index l.queues) ≡ listed_beside 0 l.queues)
