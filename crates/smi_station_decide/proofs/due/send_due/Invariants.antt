use Rattle.std.proofs.Common.{◌≡◌, ◌-◌, map}
use Rattle.std.specs.List.{filter_map, range_with_len}
use Rattle.smi_command.specs.Link.{due_of}
use Rattle.smi_station_output.specs.Out.{sent_after}
use Rattle.smi_protocol.specs.Messages.{requests}
use Rattle.smi_station_decide.proofs.due.send_due.Given as goal

-- what is due so far was sent
abbrev pub invariant-loop-i : goal.invariant-loop-i
invariant-loop-i l =
    record l.out {
      datagrams = sent_after l.out.datagrams
          (map (requests l.tree l.number l.holder l.domain)
          (filter_map (due_of l.link) (range_with_len l.i (8 - l.i))));
    }
    ≡ record l.initial.out {
      datagrams = sent_after l.initial.out.datagrams
          (map (requests l.tree l.number l.holder l.domain) (filter_map (due_of l.link) (range_with_len 0 8)));
    }
