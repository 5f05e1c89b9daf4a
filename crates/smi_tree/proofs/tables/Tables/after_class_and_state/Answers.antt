use Rattle.std.proofs.Common.{◌≡◌, ℕ, List, Some, ◌∷◌, ◌∙◌, ap, sym}
use Rattle.smi_tree.specs.ClassTable.{ClassTable}
use Rattle.smi_tree.specs.Hierarchy.{Hierarchy, entry}
use Rattle.smi_tree.specs.Name.{number_of}
use Rattle.smi_tree.proofs.MoveLines.{known-number, known-class}
use Rattle.smi_tree.proofs.tables.Tables.after_class_and_state.Goals as goal

pub returns : goal.returns
returns c =
    let h = c.args.self.now in
    let class = c.in_ok-rest.ensures in
    let from = c.in_ok-rest-2.ensures in
    let class_number : number_of h.class_names class.0 ≡ Some c.args.row.class =
    ap (λ (g : Hierarchy). number_of g.class_names class.0) (sym c.self.view_is) ∙ class.2 in
    let from_number : number_of h.state_names from.0 ≡ Some c.args.row.from =
    ap (λ (g : Hierarchy). number_of g.state_names from.0) (sym c.self.view_is) ∙ from.2 in
    let row : entry h.classes c.args.row.class ≡ Some c.in_ok-table.table.now =
    ap (λ (g : Hierarchy). entry g.classes c.args.row.class) (sym c.self.view_is)
    ∙ (ap (λ (rows : List ClassTable). entry rows c.args.row.class) (sym c.deref.ensures.value)
    ∙ sym c.in_ok-table.ensures.row) in (
      class.0,
      from.0,
      c.in_ok-table.table.now,
      class.1,
      from.1,
      known-class h class.0 c.args.row.class c.in_ok-table.table.now class_number row,
      ap (λ (t : ClassTable). t.kind) (sym c.table.view_is),
      known-number h.state_names from.0 c.args.row.from from_number,
      class.3 ∙ ap (λ (ws : List (List ℕ)). class.0 ∷ ws) from.3,
    )
