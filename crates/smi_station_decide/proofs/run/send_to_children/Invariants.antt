use Rattle.std.proofs.Common.{◌≡◌, drop}
use Rattle.std.specs.List.{flat_map}
use Rattle.smi_station_grants.specs.Children.{meant}
use Rattle.smi_station_grants.specs.declared.commanded.CommandedChild.{CommandedChild}
use Rattle.smi_station_output.specs.Out.{sent_after}
use Rattle.smi_protocol.specs.Keeping.{child_request}
use Rattle.smi_station_decide.proofs.run.send_to_children.Given as goal

-- the children so far are asked
abbrev pub invariant-loop-one : goal.invariant-loop-one
invariant-loop-one l =
    record l.out {
      datagrams = sent_after l.out.datagrams
          (flat_map (λ (x : CommandedChild). child_request l.kept.tree l.kept.number l.domain x.child
          (meant x.change)) (drop l.one-index l.one-items));
    }
    ≡ record l.initial.out {
      datagrams = sent_after l.initial.out.datagrams
          (flat_map (λ (x : CommandedChild). child_request l.kept.tree l.kept.number l.domain x.child
          (meant x.change)) l.one-items);
    }
