use Rattle.std.proofs.Common.{Bor, sym, ap, ◌∙◌}
use Rattle.std.specs.Prelude.{Option, option_copied}
use Rattle.smi_grant.specs.declared.Shown.{Shown}
use Rattle.smi_audit.proofs.Searching.{found_at, found_out}
use Rattle.smi_audit.proofs.passed_states.PassedStates.has.Goals as goal

pub returns-in-Some : goal.returns-in-Some
returns-in-Some c =
    c.same_shown.ensures
    ∙ found_at c.args.self.now c.args.shown.now c.place_of.result c.in-Some.found.now
    c.place_of.ensures.falling c.place_of.ensures.place
    (sym c.at.ensures ∙ ap (λ (o : Option (Bor Shown)). option_copied o) c.in-Some.is)

pub returns-in-None : goal.returns-in-None
returns-in-None c =
    found_out c.args.self.now c.args.shown.now c.place_of.result
    c.place_of.ensures.falling c.place_of.ensures.place
    (sym c.at.ensures ∙ ap (λ (o : Option (Bor Shown)). option_copied o) c.in-None.is)
