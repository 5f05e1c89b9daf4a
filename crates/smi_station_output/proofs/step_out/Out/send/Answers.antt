use Rattle.std.proofs.Common.{◌≡◌, ◌<◌, List, length, take, ap, ◌∙◌, arith}
use Rattle.std.proofs.lemmas.List.{take_more_set, length-take-le}
use Rattle.smi_message.specs.Message.{Message}
use Rattle.smi_protocol.specs.Ticking.{most_sent}
use Rattle.smi_station_output.proofs.Sending.{one_sent, none_sent}
use Rattle.smi_station_output.proofs.step_out.Out.send.Goals as goal

pub returns-then-self-lt-MOST_SENT : goal.returns-then-self-lt-MOST_SENT
returns-then-self-lt-MOST_SENT c =
    let i = c.self.invariant.0 in
    let long : length (take c.self.inside.sent c.self.inside.datagrams)
    ≡ c.self.inside.sent = length-take-le c.self.inside.sent c.self.inside.datagrams
    (omega (arith, i.all, i.within)) in
    let room : length (take c.self.inside.sent c.self.inside.datagrams) < most_sent = omega arith in
    rw (← c.self.view_is)
    (ap (λ (xs : List Message). record {
      datagrams = xs;
      answers = take c.self.inside.answered c.self.inside.answers;
      issued = c.self.inside.issued;
      shown = c.self.inside.shown;
      kept = c.self.inside.kept;
      passed = c.self.inside.passed;
    })
    (take_more_set c.self.inside.datagrams c.self.inside.sent c.args.datagram (omega (arith, i.all))
    ∙ one_sent (take c.self.inside.sent c.self.inside.datagrams) c.args.datagram room))

pub returns-else-self-lt-MOST_SENT : goal.returns-else-self-lt-MOST_SENT
returns-else-self-lt-MOST_SENT c =
    let i = c.self.invariant.0 in
    let long : length (take c.self.inside.sent c.self.inside.datagrams)
    ≡ c.self.inside.sent = length-take-le c.self.inside.sent c.self.inside.datagrams
    (omega (arith, i.all, i.within)) in
    let full : length (take c.self.inside.sent c.self.inside.datagrams) ≡ most_sent = omega (arith, long, i.within) in
    rw (← c.self.view_is)
    (ap (λ (xs : List Message). record {
      datagrams = xs;
      answers = take c.self.inside.answered c.self.inside.answers;
      issued = c.self.inside.issued;
      shown = c.self.inside.shown;
      kept = c.self.inside.kept;
      passed = c.self.inside.passed;
    })
    (none_sent (take c.self.inside.sent c.self.inside.datagrams) c.args.datagram full))
