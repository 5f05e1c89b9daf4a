use Rattle.std.proofs.Common.{◌≡◌, ◌++◌}
use Rattle.smi_session.specs.Reply.{held_beside, with_held}
use Rattle.smi_session.proofs.reply.push_held.Given as goal

-- the orders that are left are still to be listed and counted
abbrev pub invariant-loop-it : goal.invariant-loop-it
invariant-loop-it l = (goal.iterator-loop-it).can_next l.it-iterator
    × (goal.iterator-loop-it).is_finite l.it-iterator
    × (with_held l.tree l.tag l.now (l.it-iterator.head.now ++ l.it-iterator.wrapped.now) l.session
    ≡ with_held l.tree l.tag l.now l.fn.listed.1.now.items l.fn.session)
    × (held_beside l.count (l.it-iterator.head.now ++ l.it-iterator.wrapped.now)
    ≡ held_beside l.fn.listed.0 l.fn.listed.1.now.items)
