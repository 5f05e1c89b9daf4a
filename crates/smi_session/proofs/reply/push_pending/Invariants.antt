use Rattle.std.proofs.Common.{◌≡◌, ◌++◌}
use Rattle.smi_session.specs.Reply.{with_pending}
use Rattle.smi_session.proofs.reply.push_pending.Given as goal

-- the orders that are left are still to be listed
abbrev pub invariant-loop-pending : goal.invariant-loop-pending
invariant-loop-pending l = (goal.iterator-loop-pending).can_next l.pending-iterator
    × (goal.iterator-loop-pending).is_finite l.pending-iterator
    × (with_pending l.tree l.tag l.now l.operator (l.pending-iterator.head.now ++ l.pending-iterator.wrapped.now)
    l.session ≡ with_pending l.tree l.tag l.now l.operator l.fn.listed.1.now.pending l.fn.session)
