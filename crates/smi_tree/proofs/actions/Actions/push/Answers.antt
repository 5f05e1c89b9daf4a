use Rattle.smi_tree.proofs.ActionLemmas.{IsActionIndex-push}
use Rattle.smi_tree.proofs.actions.Actions.push.Goals as goal

pub invariant_of-self-in_default : goal.invariant_of-self-in_default
invariant_of-self-in_default c =
    rw c.in_ok-push.ensures.items (IsActionIndex-push c.self.inside.rows.items c.args.action c.self.inside.index
    c.insert.new.self c.self.invariant c.in_default.ensures.updates.0)
