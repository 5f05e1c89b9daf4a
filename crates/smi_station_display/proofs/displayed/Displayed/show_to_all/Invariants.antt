use Rattle.std.proofs.Common.{◌≡◌, map}
use Rattle.std.specs.List.{AllByRecursion}
use Rattle.smi_watchers.specs.declared.Watcher.{Watcher}
use Rattle.smi_station_output.specs.Out.{sent_after}
use Rattle.smi_protocol.specs.Messages.{shows}
use Rattle.smi_protocol.specs.SoundDisplay.{IsWatcher}
use Rattle.smi_station_display.proofs.displayed.Displayed.show_to_all.Given as goal

-- the watchers so far are told
abbrev pub invariant-loop-watcher : goal.invariant-loop-watcher
invariant-loop-watcher l = record {
  all : record l.out {
    datagrams = sent_after l.out.datagrams
        (map (λ (w : Watcher). shows l.self.tree l.self.number w.station w.echo l.shown) l.watcher-iterator);
  }
      ≡ record l.initial.out {
        datagrams = sent_after l.initial.out.datagrams
            (map (λ (w : Watcher). shows l.self.tree l.self.number w.station w.echo l.shown)
            l.initial.watcher-iterator);
      };
  each : AllByRecursion (IsWatcher l.self.tree) l.watcher-iterator;
}
