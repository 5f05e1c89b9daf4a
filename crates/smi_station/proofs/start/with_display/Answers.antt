use Rattle.std.proofs.Common.{◌∙◌}
use Rattle.smi_station.proofs.Started.{started_core}
use Rattle.smi_station.proofs.start.with_display.Goals as goal

pub invariant_of-result : goal.invariant_of-result
invariant_of-result c =
    started_core c.args.tree.now c.args.number c.args.kept.boot c.args.kept c.in-Ok.display c.requires.tree
    c.requires.number c.requires.sound
    c.in-Ok.ensures.tree c.in-Ok.ensures.number (c.in-Ok.ensures.boot ∙ c.boot.ensures) c.in-Ok.ensures.display
