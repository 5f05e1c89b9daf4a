use Rattle.std.proofs.Common.{sym, ap, ◌∙◌, subst, refl}
use Rattle.smi_watchers.specs.declared.lists.Axis.TheVariants.{Object, Station}
use Rattle.smi_watchers.specs.Net.{MayLink, linked}
use Rattle.smi_watchers.proofs.Adds.{add_first, add_second}
use Rattle.smi_watchers.proofs.lists.Lists.add.Goals as goal

pub link_last-requires : goal.link_last-requires
link_last-requires c =
    let w = c.requires.whole in let a = c.args in let p = c.fill-place.result in
    subst (λ k. MayLink Object k p c.fill-place.new.self) (sym c.from.ensures)
    (subst (MayLink Object a.cell.object p) (sym c.fill-place.ensures.0)
    (add_first w.0 w.1 a.self.now w.2 p a.cell c.fill-place.ensures.1 a.cell.object a.cell.station refl refl
    c.requires.object c.requires.station))

pub link_last-requires-2 : goal.link_last-requires-2
link_last-requires-2 c =
    let w = c.requires.whole in let a = c.args in let p = c.fill-place.result in
    let new = c.link_last.ensures ∙ ap (λ k. linked Object k p c.fill-place.new.self) c.from.ensures
    ∙ ap (linked Object a.cell.object p) c.fill-place.ensures.0 in
    subst (λ k. MayLink Station k p c.link_last.new.self) (sym c.from-2.ensures)
    (subst (MayLink Station a.cell.station p) (sym new)
    (add_second w.0 w.1 a.self.now w.2 p a.cell c.fill-place.ensures.1 a.cell.object a.cell.station refl refl
    c.requires.object c.requires.station))
