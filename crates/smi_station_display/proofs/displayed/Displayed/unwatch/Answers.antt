use Rattle.std.proofs.Common.{◌∙◌, subst, sym, false}
use Rattle.smi_tree.specs.Lawful.{IsBetween}
use Rattle.smi_protocol.specs.Opening.{object_count}
use Rattle.smi_station_display.specs.Displayed.{Displayed}
use Rattle.smi_station_display.proofs.Displays.{named_is}
use Rattle.smi_station_display.proofs.displayed.Displayed.unwatch.Goals as goal

pub returns-clause-display : goal.returns-clause-display
returns-clause-display c =
    rw (sym c.is_child_unit.ensures ∙ c.if-is_child_unit.false, ← c.self.view_is, c.from.ensures)
    (named_is _ c.self.invariant c.args.object false
    (subst (λ (k : Displayed). IsBetween 1 (object_count k.tree) c.args.object) (sym c.self.view_is)
    c.requires.object))
