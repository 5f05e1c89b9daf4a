use Rattle.std.proofs.Common.{◌≡◌, ◌≤◌, length, drop}
use Rattle.smi_station_output.specs.Out.{answered_after}
use Rattle.smi_station_decide.proofs.Answering.{answers_from}
use Rattle.smi_station_decide.proofs.tell.send_answers.Given as goal

-- what has settled so far is answered
abbrev pub invariant-loop-i : goal.invariant-loop-i
invariant-loop-i l = record {
  all : record l.out {
    answers = answered_after l.out.answers
        (answers_from l.operator l.domain l.link l.i (drop l.i l.settlements));
  }
      ≡ record l.initial.out {
        answers = answered_after l.initial.out.answers
            (answers_from l.operator l.domain l.link 0 l.settlements);
      };
  few : length l.out.answers ≤ l.i;
}
