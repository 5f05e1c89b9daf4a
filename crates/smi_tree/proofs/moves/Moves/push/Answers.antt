use Rattle.std.proofs.Common.{◌≡◌, None}
use Rattle.smi_tree.specs.Hierarchy.{move_in}
use Rattle.smi_tree.proofs.MoveLemmas.{IsMoveIndex-push}
use Rattle.smi_tree.proofs.moves.Moves.push.Goals as goal

pub invariant_of-self-in_default : goal.invariant_of-self-in_default
invariant_of-self-in_default c =
    let row = c.args.row in
    let absent : move_in c.self.inside.rows.items row.class row.from row.action ≡ None = rw c.self.view_is c.requires in
    rw c.in_ok-push.ensures.items
    (IsMoveIndex-push c.self.inside.rows.items row c.self.inside.by_class.items c.put_at.new.by_class.items
    c.self.invariant absent c.in_default.ensures.ok)
