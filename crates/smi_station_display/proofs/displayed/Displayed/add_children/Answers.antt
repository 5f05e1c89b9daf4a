use Rattle.std.proofs.Common.{length, ap, arith}
use Rattle.smi_station_display.proofs.Listing.{few_children}
use Rattle.smi_station_display.proofs.displayed.Displayed.add_children.Goals as goal

pub push-requires : goal.push-requires
push-requires c =
    let few = few_children _ c.self.invariant.tree c.args.domain in
    let all = ap length c.children-children.ensures in
    omega (arith, c.loop-child.invariant.few, c.loop-child-test.true, all, few, c.requires.room)
