use Rattle.std.proofs.Common.{ℕ, ◌-◌, ◌<◌, List, length, take, drop, sym, ap, ◌∙◌, arith}
use Rattle.std.proofs.lemmas.Bool.Decides.{nat_tests}
use Rattle.smi_schedule.specs.Lines.{Window}
use Rattle.smi_schedule.proofs.Cuts.{last_taken}
use Rattle.smi_schedule.proofs.lines.Lines.take_last.Goals as goal

pub returns-in-Ok-clause-cut : goal.returns-in-Ok-clause-cut
returns-in-Ok-clause-cut c =
    let from = c.self.inside.from in
    let some : 0 < length c.args.self.now.rest = rw (← c.rest.ensures) (grind (arith, nat_tests)) in
    last_taken c.self.inside.read.items c.args.self.now.rest c.replace.new.line.items from c.len-self-inside.result
    (ap (λ (w : Window). w.rest) (sym c.self.view_is))
    (c.in-Ok.ensures ∙ ap (λ (t : List ℕ). take (length t - from) (drop from t)) c.deref.ensures.value)
    (c.len-self-inside.ensures ∙ c.self.inside.read.ok.0) (omega arith) some
