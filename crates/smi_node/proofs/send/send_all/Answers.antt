use Rattle.std.proofs.Common.{◌≡◌, ◌∷◌, ◌+◌, List, drop, drop_of_length-le, subst, sym, ap, ◌∙◌}
use Rattle.smi_message.specs.Message.{Message}
use Rattle.smi_node.specs.Linked.{Sends, shown_by}
use Rattle.smi_node.proofs.Sends.{drop_next, none_sent, next_sent}
use Rattle.smi_node.proofs.send.send_all.Goals as goal

pub loop-datagram-preserved : goal.loop-datagram-preserved
loop-datagram-preserved g c =
    λ after more.
    let shows = shown_by g.L.DatagramLink.received g.L.DatagramLink.handed g.L.DatagramLink.failures
    g.L.DatagramLink.receives in
    let m = c.datagram-item.result in
    let ms = c.args.datagrams.now in
    let i = c.loop-datagram.datagram-index in
    let next : drop i ms ≡ m ∷ drop (i + 1) ms = drop_next ms i m c.loop-datagram-test.true
    ∙ ap (λ (x : Message). x ∷ drop (i + 1) ms) (sym c.datagram-item.is) in
    c.loop-datagram.invariant after
    (subst (λ (rest : List Message). Sends rest (shows c.loop-datagram.link) after) (sym next)
    (next_sent m (drop (i + 1) ms) (shows c.loop-datagram.link) (shows c.send_one.new.link) after
    c.send_one.ensures more))

pub returns : goal.returns
returns g c =
    let shows = shown_by g.L.DatagramLink.received g.L.DatagramLink.handed g.L.DatagramLink.failures
    g.L.DatagramLink.receives in
    c.loop-datagram.invariant (shows c.loop-datagram.link)
    (subst (λ (rest : List Message). Sends rest (shows c.loop-datagram.link) (shows c.loop-datagram.link))
    (sym (drop_of_length-le c.args.datagrams.now c.loop-datagram-test.false))
    (none_sent (shows c.loop-datagram.link)))
