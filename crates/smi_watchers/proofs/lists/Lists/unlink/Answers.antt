use Rattle.std.proofs.Common.{sym, subst}
use Rattle.smi_watchers.specs.declared.cell.Sides.{Sides}
use Rattle.smi_watchers.specs.Net.{IsNode}
use Rattle.smi_watchers.proofs.Nets.{node_put}
use Rattle.smi_watchers.proofs.lists.Lists.unlink.Goals as goal

pub set_before-requires : goal.set_before-requires
set_before-requires c =
    let old = c.args.self.now in let r = c.links-before.result in
    let here : IsNode c.args.axis c.args.list r.after old = subst
    (λ (l : Sides). IsNode c.args.axis c.args.list l.after old) (sym c.links-before.ensures) c.requires.2 in
    subst (IsNode c.args.axis c.args.list r.after) (sym c.set_after.ensures)
    (node_put c.args.axis c.args.list r.before _ old r.after here)
