use Rattle.std.proofs.Common.{◌∙◌, ℕ, ◌+◌, ap, sym, drop}
use Rattle.std.specs.List.{flat_map}
use Rattle.smi_protocol.specs.Ticking.{owed_question}
use Rattle.smi_station_display.specs.Displayed.{display_of}
use Rattle.smi_station_display.specs.Sweeping.{Sweeping, offered, sweeping}
use Rattle.smi_station_display.proofs.Sweeps.{list_offered}
use Rattle.smi_station_display.proofs.displayed.Displayed.offer_questions.Goals as goal

pub loop-operator-preserved : goal.loop-operator-preserved
loop-operator-preserved c =
    let f = λ (o : ℕ). owed_question c.args.self.now.tree c.args.self.now.number o
    ((display_of c.args.self.now).asks o) in
    let xs = c.operators-operators.result.now in
    let i = c.loop-operator.operator-index in
    ap (λ (s : Sweeping). offered s (flat_map f (drop (i + 1) xs))) c.offer_question.ensures
    ∙ sym (list_offered (sweeping c.loop-operator.sweep c.loop-operator.out) f xs i 0 c.loop-operator-test.true)
    ∙ c.loop-operator.invariant
