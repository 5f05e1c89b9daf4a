use Rattle.std.proofs.Common.{ℕ, ◌+◌, ◌-◌, List, take, drop, refl, sym, ap, ◌∙◌}
use Rattle.std.specs.Str.Lines.{strip_carriage_return}
use Rattle.smi_schedule.specs.Lines.{Window}
use Rattle.smi_schedule.proofs.Cuts.{line_taken}
use Rattle.smi_schedule.proofs.lines.Lines.take_line.Goals as goal

pub returns-in-Ok-clause-cut : goal.returns-in-Ok-clause-cut
returns-in-Ok-clause-cut c = λ later.
    let from = c.self.inside.from in
    let end = c.args.end in
    line_taken c.self.inside.read.items c.args.self.now.rest later c.without_return-line.result.now
    c.replace.new.line.items from end (from + end)
    (ap (λ (w : Window). w.rest) (sym c.self.view_is)) refl
    (c.without_return-line.ensures
    ∙ ap (λ (t : List ℕ). strip_carriage_return (take (from + end - from) (drop from t))) c.deref.ensures.value)
    c.in-Ok.ensures c.requires.within c.requires.first
