use Rattle.std.proofs.Common.{◌≡◌, drop}
use Rattle.std.specs.List.{flat_map}
use Rattle.smi_protocol.specs.Ticking.{owed_question}
use Rattle.smi_station_display.specs.Displayed.{display_of}
use Rattle.smi_station_display.specs.Sweeping.{offered, sweeping}
use Rattle.smi_station_display.proofs.displayed.Displayed.offer_questions.Given as goal

-- what is due so far was offered
abbrev pub invariant-loop-operator : goal.invariant-loop-operator
invariant-loop-operator l =
    offered (sweeping l.sweep l.out) (flat_map
    (λ o. owed_question l.self.tree l.self.number o ((display_of l.self).asks o)) (drop l.operator-index l.operators))
    ≡ offered (sweeping l.initial.sweep l.initial.out)
    (flat_map (λ o. owed_question l.self.tree l.self.number o ((display_of l.self).asks o)) l.operators)
