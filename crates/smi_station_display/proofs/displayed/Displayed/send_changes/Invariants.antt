use Rattle.std.proofs.Common.{◌≡◌, drop}
use Rattle.std.specs.List.{AllByRecursion, flat_map}
use Rattle.smi_station_output.specs.Out.{sent_after}
use Rattle.smi_protocol.specs.Showing.{shown_to_all}
use Rattle.smi_protocol.specs.SoundDisplay.{IsShown}
use Rattle.smi_station_display.proofs.displayed.Displayed.send_changes.Given as goal

-- the changes so far are told
abbrev pub invariant-loop-shown : goal.invariant-loop-shown
invariant-loop-shown l = record {
  all : record l.out {
    datagrams = sent_after l.out.datagrams
        (flat_map (shown_to_all l.self.tree l.self.number l.self.watchers) (drop l.shown-index l.changes));
  }
      ≡ record l.initial.out {
        datagrams = sent_after l.initial.out.datagrams
            (flat_map (shown_to_all l.self.tree l.self.number l.self.watchers) l.changes);
      };
  each : AllByRecursion (IsShown l.self.tree) (drop l.shown-index l.changes);
}
