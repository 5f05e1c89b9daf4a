use Rattle.std.proofs.Common.{◌≡◌, Result, Ok, Err, sym, ap, ◌∙◌, rules}
use Rattle.smi_tree.specs.Additions.{known}
use Rattle.smi_tree.specs.Fault.{Becomes}
use Rattle.smi_tree.specs.Hierarchy.{Hierarchy}
use Rattle.smi_tree.specs.Name.{number_of}
use Rattle.smi_tree.specs.declared.fault.Fault.{Fault}
use Rattle.smi_tree.specs.declared.fault.LineRefusal.{LineRefusal}
use Rattle.smi_tree.proofs.MoveLines.{pair, move-read_last, move-read_after, move-unknown, known-number}
use Rattle.smi_tree.proofs.tables.Tables.read_move.Goals as goal

-- what a step left, if what is said of it is the same
same-said : {X Y : Type 0} (new : X) (r : Result Y LineRefusal) (said other : Result X Fault) → said ≡ other
    → Becomes new r other → Becomes new r said
same-said new r said other same h = rw same h

pub returns-in_err-to : goal.returns-in_err-to
returns-in_err-to c =
    let h = c.args.self.now in
    let begin = c.in-Some.ensures in
    let action = c.in-Some-after_name.ensures in
    same-said h _ _ (Err c.in_err-to.field-0.0)
    (move-read_last h begin.0 begin.1 action.0 _ _ _ (Err c.in_err-to.field-0.0) begin.8 begin.3 begin.4 action.3
    action.1 (sym c.in_err-to.ensures)) (search rules)

pub returns-in-Some-after_name : goal.returns-in-Some-after_name
returns-in-Some-after_name c =
    let h = c.args.self.now in
    let begin = c.in-Some.ensures in
    let action = c.in-Some-after_name.ensures in
    let numbered = ap (λ (g : Hierarchy). number_of g.action_names action.0) (sym c.self.view_is) ∙ action.2 in
    same-said c.add_move_from.new.self _ _ _
    (move-read_last h begin.0 begin.1 action.0 _ _ _ (Ok c.in_ok-to.to) begin.8 begin.3 begin.4 action.3
    action.1 (sym c.in_ok-to.ensures))
    (c.add_move_from.ensures begin.0 begin.1 action.0 begin.2 begin.5 begin.6 begin.7
    (known-number h.action_names action.0 _ numbered))

pub returns-in_err-action : goal.returns-in_err-action
returns-in_err-action c =
    let h = c.args.self.now in
    let begin = c.in-Some.ensures in
    same-said h _ _ (Err c.in_err-action.field-0.0)
    (move-read_after h begin.0 begin.1 _ _ (Err c.in_err-action.field-0.0) begin.8 begin.3 begin.4
    (sym c.in_err-action.ensures)) (search rules)

pub returns-in_err-action-2 : goal.returns-in_err-action-2
returns-in_err-action-2 c =
    let h = c.args.self.now in
    let begin = c.in-Some.ensures in
    let action = c.in_ok-action.action in
    let to = c.in_ok-action.to in
    let unknown : known h.action_names action ≡ Err c.in_err-action-2.field-0.0 =
    ap (λ (g : Hierarchy). known g.action_names action) (sym c.self.view_is) ∙ sym c.in_err-action-2.ensures in
    same-said h _ _ (Err c.in_err-action-2.field-0.0)
    (move-read_after h begin.0 begin.1 _ _ (pair action to) begin.8 begin.3 begin.4 (sym c.in_ok-action.ensures)
    ∙ move-unknown h begin.0 begin.1 action to _ _ _ begin.5 begin.7 unknown) (search rules)

pub returns : goal.returns
returns c =
    let h = c.args.self.now in
    let begin = c.in-Some.ensures in
    let action = c.in_ok-action.action in
    let to = c.in_ok-action.to in
    let found : known h.action_names action ≡ Ok c.in_ok-action-2.action =
    ap (λ (g : Hierarchy). known g.action_names action) (sym c.self.view_is) ∙ sym c.in_ok-action-2.ensures in
    same-said c.add_move_from-2.new.self _ _ _
    (move-read_after h begin.0 begin.1 _ _ (pair action to) begin.8 begin.3 begin.4 (sym c.in_ok-action.ensures))
    (c.add_move_from-2.ensures begin.0 begin.1 action begin.2 begin.5 begin.6 begin.7 found)
