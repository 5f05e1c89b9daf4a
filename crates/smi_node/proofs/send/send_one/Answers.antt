use Rattle.std.proofs.Common.{◌∙◌, ap}
use Rattle.smi_message.specs.Message.{Message}
use Rattle.smi_node.specs.Linked.{shown_by}
use Rattle.smi_node.proofs.Sends.{one_sent}
use Rattle.smi_node.proofs.send.send_one.Goals as goal

pub returns : goal.returns
returns g c =
    let shows = shown_by g.L.DatagramLink.received g.L.DatagramLink.handed g.L.DatagramLink.failures
    g.L.DatagramLink.receives in
    let m = c.args.datagram.now in
    one_sent m c.datagram.inside.to c.encode.result (shows c.args.link.now) (shows c.send.new.self) c.send.result
    (ap (λ (x : Message). (x.to, c.encode.result)) c.datagram.view_is ∙ ap (λ bytes. (m.to, bytes)) c.encode.ensures)
    c.send.ensures.handed c.send.ensures.received c.send.ensures.receives c.send.ensures.failures
