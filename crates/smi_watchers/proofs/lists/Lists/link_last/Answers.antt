use Rattle.std.proofs.Common.{Some, sym, subst}
use Rattle.smi_watchers.specs.declared.cell.Sides.{Sides}
use Rattle.smi_watchers.specs.Net.{IsNode}
use Rattle.smi_watchers.proofs.Nets.{node_put}
use Rattle.smi_watchers.proofs.lists.Lists.link_last.Goals as goal

pub set_after-requires : goal.set_after-requires
set_after-requires c =
    let old = c.args.self.now in let r = c.links-last.result in
    let here : IsNode c.args.axis c.args.list r.before old = subst
    (λ (l : Sides). IsNode c.args.axis c.args.list l.before old) (sym c.links-last.ensures) c.requires.2 in
    subst (IsNode c.args.axis c.args.list r.before) (sym c.set_links.ensures)
    (node_put c.args.axis c.args.list (Some c.args.place) _ old r.before here)
