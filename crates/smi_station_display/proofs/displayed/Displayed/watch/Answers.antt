use Rattle.std.proofs.Common.{subst, sym}
use Rattle.std.specs.Prelude.{true}
use Rattle.smi_tree.specs.Lawful.{IsBetween}
use Rattle.smi_protocol.specs.Opening.{object_count}
use Rattle.smi_station_display.specs.Displayed.{Displayed}
use Rattle.smi_station_display.proofs.Displays.{named_is}
use Rattle.smi_station_display.proofs.displayed.Displayed.watch.Goals as goal

pub returns-clause-display : goal.returns-clause-display
returns-clause-display c =
    rw (← c.self.view_is, c.from.ensures)
    (named_is _ c.self.invariant c.args.object true
    (subst (λ (k : Displayed). IsBetween 1 (object_count k.tree) c.args.object) (sym c.self.view_is)
    c.requires.object))
