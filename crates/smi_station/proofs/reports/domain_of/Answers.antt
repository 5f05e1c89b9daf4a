use Rattle.std.proofs.Common.{ap, sym, ◌∙◌, arith}
use Rattle.smi_tree.specs.Hierarchy.{Hierarchy, entry}
use Rattle.smi_protocol.proofs.KeptObjects.{kept_within}
use Rattle.smi_station.proofs.Reported.{device_among}
use Rattle.smi_station.proofs.reports.domain_of.Goals as goal

pub returns-clause-among : goal.returns-clause-among
returns-clause-among c =
    let k = c.args.kept.now in
    device_among k.tree c.args.device c.device.result
    (ap (λ (h : Hierarchy). entry h.devices c.args.device) (sym c.tree-tree.ensures.value) ∙ c.device.ensures)

pub returns-clause-device : goal.returns-clause-device
returns-clause-device c =
    let k = c.args.kept.now in
    let least = c.requires.least in
    let most = (kept_within k.tree c.tree-tree.ensures.kept.tree k.number _ c.requires.kept).1 in
    record { least = least; most = omega (arith, most) }
