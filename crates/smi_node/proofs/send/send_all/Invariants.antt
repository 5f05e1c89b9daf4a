use Rattle.std.proofs.Common.{drop}
use Rattle.smi_node.specs.Linked.{LinkShows, Sends, shown_by}
use Rattle.smi_node.proofs.send.send_all.Given as goal

-- whatever the others leave, all leave
abbrev pub invariant-loop-datagram : goal.invariant-loop-datagram
invariant-loop-datagram g l =
    (after : LinkShows) → Sends (drop l.datagram-index l.datagrams)
    (shown_by g.L.DatagramLink.received g.L.DatagramLink.handed g.L.DatagramLink.failures
    g.L.DatagramLink.receives l.link) after
    → Sends l.datagrams (shown_by g.L.DatagramLink.received g.L.DatagramLink.handed g.L.DatagramLink.failures
    g.L.DatagramLink.receives
    l.initial.link) after
