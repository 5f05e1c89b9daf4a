use Rattle.std.proofs.Common.{◌∙◌, ◌+◌, ◌-◌, List, map, ap, sym}
use Rattle.std.specs.List.{filter_map, range_with_len}
use Rattle.smi_command.specs.Link.{due_of}
use Rattle.smi_message.specs.Message.{Message}
use Rattle.smi_station_output.specs.Out.{sent_after}
use Rattle.smi_protocol.specs.Messages.{if_any, requests}
use Rattle.smi_protocol.specs.Step.{Out}
use Rattle.smi_station_decide.proofs.Sends.{due_sent}
use Rattle.smi_station_decide.proofs.due.send_due.Goals as goal

pub loop-i-preserved : goal.loop-i-preserved
loop-i-preserved c =
    let f = requests c.args.tree.now c.args.number c.args.holder c.args.domain in
    let due = due_of c.args.link.now in
    let i = c.loop-i.i in
    let rest = map f (filter_map due (range_with_len (i + 1) (8 - (i + 1)))) in
    ap (λ (o : Out). record o { datagrams = sent_after o.datagrams rest }) c.send_if_due.ensures
    ∙ ap (λ o. record c.loop-i.out {
      datagrams = sent_after (sent_after c.loop-i.out.datagrams (map f (if_any o)))
          rest;
    }) c.due.ensures
    ∙ ap (λ (ms : List Message). record c.loop-i.out { datagrams = ms })
    (sym (due_sent c.loop-i.out.datagrams f due 8 i c.loop-i-test.true))
    ∙ c.loop-i.invariant
