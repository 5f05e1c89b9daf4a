use Rattle.std.proofs.Common.{length, ap, arith}
use Rattle.smi_tree.specs.Lawful.{IsTree}
use Rattle.smi_station_grants.proofs.Listing.{few_children}
use Rattle.smi_station_grants.proofs.planned_view.PlannedView.child_links.Goals as goal

pub returns-clause-few : goal.returns-clause-few
returns-clause-few c =
    let tree : IsTree c.tree.result.now = rw c.tree.ensures.value c.tree.ensures.kept.tree in
    omega (
      arith,
      few_children c.tree.result.now c.args.domain tree,
      ap length c.children-children.ensures,
      c.loop-child.invariant.few,
    )
