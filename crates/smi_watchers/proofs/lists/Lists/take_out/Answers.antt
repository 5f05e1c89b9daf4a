use Rattle.std.proofs.Common.{◌≡◌, IsSome, sym, ap, ◌∙◌, subst}
use Rattle.smi_watchers.specs.declared.cell.Cell.{Cell}
use Rattle.smi_watchers.specs.declared.lists.Axis.TheVariants.{Object, Station}
use Rattle.smi_watchers.specs.Held.{found}
use Rattle.smi_watchers.specs.Net.{Net, IsLinked, unlinked, cell_at}
use Rattle.smi_watchers.proofs.Meshes.{may_row, may_column, still_held}
use Rattle.smi_watchers.proofs.lists.Lists.take_out.Goals as goal

pub unlink-requires : goal.unlink-requires
unlink-requires c =
    let w = c.requires.whole in let n = c.args.self.now in let p = c.args.place in
    let row : c.from.result ≡ (cell_at n p).object = c.from.ensures ∙ ap (λ (x : Cell). x.object) c.cell-cell.ensures in
    subst (λ k. IsLinked Object k p n) (sym row) (may_row w.0 w.1 n w.2 p c.requires.held)

pub unlink-requires-2 : goal.unlink-requires-2
unlink-requires-2 c =
    let w = c.requires.whole in let n = c.args.self.now in let p = c.args.place in
    let row : c.from.result ≡ (cell_at n p).object = c.from.ensures ∙ ap (λ (x : Cell). x.object) c.cell-cell.ensures in
    let column : c.from-2.result ≡ (cell_at n p).station = c.from-2.ensures
    ∙ ap (λ (x : Cell). x.station) c.cell-cell.ensures in
    subst (IsLinked Station c.from-2.result p) (sym (c.unlink.ensures ∙ ap (λ k. unlinked Object k p n) row))
    (subst (λ k. IsLinked Station k p (unlinked Object (cell_at n p).object p n)) (sym column)
    (may_column w.0 w.1 n w.2 p c.requires.held))

pub free-requires : goal.free-requires
free-requires c =
    let w = c.requires.whole in let n = c.args.self.now in let p = c.args.place in
    let row : c.from.result ≡ (cell_at n p).object = c.from.ensures ∙ ap (λ (x : Cell). x.object) c.cell-cell.ensures in
    let column : c.from-2.result ≡ (cell_at n p).station = c.from-2.ensures
    ∙ ap (λ (x : Cell). x.station) c.cell-cell.ensures in
    let new = c.unlink-2.ensures ∙ ap (unlinked Station c.from-2.result p)
    (c.unlink.ensures ∙ ap (λ k. unlinked Object k p n) row)
    ∙ ap (λ k. unlinked Station k p (unlinked Object (cell_at n p).object p n)) column in
    subst (λ (m : Net). IsSome (found p.at m.held)) (sym new) (still_held w.0 w.1 n w.2 p c.requires.held)
