use Rattle.std.proofs.Common.{◌≡◌, ◌≤◌, ◌+◌, length, drop, map}
use Rattle.std.specs.Prelude.{filter}
use Rattle.smi_station_output.specs.Out.{answered_after}
use Rattle.smi_protocol.specs.Happening.{answer_asked}
use Rattle.smi_protocol.specs.Watching.{has_asked}
use Rattle.smi_station_display.specs.Displayed.{display_of}
use Rattle.smi_station_display.proofs.displayed.Displayed.answer_askers.Given as goal

-- the askers so far are answered
abbrev pub invariant-loop-operator : goal.invariant-loop-operator
invariant-loop-operator l = record {
  all : record l.out {
    answers = answered_after l.out.answers
        (map (λ o. answer_asked o l.domain l.news)
        (filter (has_asked (display_of l.self) l.domain) (drop l.operator-index l.operators)));
  }
      ≡ record l.initial.out {
        answers = answered_after l.initial.out.answers
            (map (λ o. answer_asked o l.domain l.news) (filter (has_asked (display_of l.self) l.domain) l.operators));
      };
  few : length l.out.answers ≤ length l.initial.out.answers + l.operator-index;
}
