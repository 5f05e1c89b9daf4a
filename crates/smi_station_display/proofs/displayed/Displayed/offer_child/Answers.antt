use Rattle.std.proofs.Common.{◌∙◌, sym, subst}
use Rattle.smi_tree.specs.Lawful.{IsBetween}
use Rattle.smi_tree.specs.Lookups.{domain_count}
use Rattle.smi_station_display.specs.Displayed.{Displayed}
use Rattle.smi_station_display.proofs.Sweeps.{keeper_within}
use Rattle.smi_station_display.proofs.displayed.Displayed.offer_child.Goals as goal

pub offer_to_child-requires-clause-parent : goal.offer_to_child-requires-clause-parent
offer_to_child-requires-clause-parent c =
    subst (λ (k : Displayed). IsBetween 1 (domain_count k.tree) c.in-Some.parent) c.self.view_is
    (keeper_within _ c.self.invariant.tree c.self.inside.number c.in-Some.parent
    (sym c.is_keeper.ensures ∙ c.if-is_keeper.true))
