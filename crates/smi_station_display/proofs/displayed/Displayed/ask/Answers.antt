use Rattle.std.proofs.Common.{subst, sym}
use Rattle.smi_tree.specs.Lawful.{IsBetween}
use Rattle.smi_tree.specs.Lookups.{operator_count}
use Rattle.smi_station_display.specs.Displayed.{Displayed}
use Rattle.smi_station_display.proofs.Displays.{asked_is}
use Rattle.smi_station_display.proofs.displayed.Displayed.ask.Goals as goal

pub returns-clause-display : goal.returns-clause-display
returns-clause-display c =
    rw (← c.self.view_is, c.from.ensures)
    (asked_is _ c.self.invariant c.args.operator c.args.domain
    (subst (λ (k : Displayed). IsBetween 1 (operator_count k.tree) c.args.operator) (sym c.self.view_is)
    c.requires.operator))
