use Rattle.std.proofs.Common.{◌≡◌, ◌+◌, ◌++◌, drop}
use Rattle.smi_protocol.specs.Schedule.{sent_lines}
use Rattle.smi_world.proofs.left.Left.push_sent.Given as goal

-- the lines so far, and those that are left, are all
abbrev pub invariant-loop-datagram : goal.invariant-loop-datagram
invariant-loop-datagram l =
    (l.number ≡ l.self.before + l.datagram-index)
    × (l.lines.items ++ sent_lines (l.number + 1) (drop l.datagram-index l.datagram-items) ≡ l.fn.lines.items
    ++ sent_lines (l.self.before + 1) l.self.out.datagrams)
